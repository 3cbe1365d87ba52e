pub mod inner
pub mod Ask
