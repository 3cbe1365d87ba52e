pub mod Lines
pub mod Reading
pub mod Causes
pub mod Edits
pub mod Names
