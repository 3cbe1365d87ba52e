pub mod inner
pub mod Bare
pub mod Seated
