pub mod Runs
pub mod Refused
pub mod Fronts
