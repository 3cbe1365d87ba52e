pub mod inner
pub mod Component
