pub mod inner
pub mod Seen
