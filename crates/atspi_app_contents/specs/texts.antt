pub mod inner
pub mod Texts
