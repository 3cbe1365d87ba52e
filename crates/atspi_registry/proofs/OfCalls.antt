pub mod Members
pub mod Reading
pub mod Plain
pub mod Properties
pub mod Answering
