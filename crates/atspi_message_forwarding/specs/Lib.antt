pub mod inner
pub mod readings
