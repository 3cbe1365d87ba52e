pub mod Held
pub mod Started
