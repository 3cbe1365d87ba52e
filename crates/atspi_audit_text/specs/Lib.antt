pub mod inner
pub mod Told
pub mod Laws
