pub mod app
pub mod reader
pub mod registry
pub mod conversation
pub mod due
