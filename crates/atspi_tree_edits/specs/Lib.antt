pub mod inner
pub mod Answers
