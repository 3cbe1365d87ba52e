pub mod inner
pub mod Called
