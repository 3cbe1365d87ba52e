pub mod inner
pub mod Places
pub mod Numbers
pub mod Actions
pub mod Seen
