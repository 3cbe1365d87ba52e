pub mod inner
pub mod Seen
pub mod Boxed
pub mod called
