pub mod inner
pub mod Elements
pub mod Names
