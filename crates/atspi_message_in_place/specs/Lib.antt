pub mod inner
pub mod Bodies
pub mod Names
pub mod View
