pub mod inner
pub mod Arguments
