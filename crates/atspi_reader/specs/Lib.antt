pub mod inner
pub mod Doing
pub mod Steps
pub mod ReaderOf
