pub mod inner
pub mod Errors
pub mod Lines
pub mod Answered
pub mod Free
