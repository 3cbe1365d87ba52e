pub mod inner
pub mod Standing
pub mod Runs
