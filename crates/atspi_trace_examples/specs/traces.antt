pub mod Cases
pub mod Runs
