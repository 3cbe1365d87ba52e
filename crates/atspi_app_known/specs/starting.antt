pub mod inner
pub mod KnownView
