pub mod inner
pub mod Changing
