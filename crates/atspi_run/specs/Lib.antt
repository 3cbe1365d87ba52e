pub mod inner
pub mod Words
pub mod Complete
