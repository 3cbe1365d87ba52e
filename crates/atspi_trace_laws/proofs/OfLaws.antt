pub mod One
pub mod Cuts
