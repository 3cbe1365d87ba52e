pub mod Refusing
pub mod Resting
