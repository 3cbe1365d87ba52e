pub mod inner
pub mod Told
