pub mod inner
pub mod Stream
pub mod Laws
