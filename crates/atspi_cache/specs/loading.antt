pub mod inner
pub mod Shared
