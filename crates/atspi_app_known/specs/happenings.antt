pub mod inner
pub mod Happened
pub mod View
pub mod Room
