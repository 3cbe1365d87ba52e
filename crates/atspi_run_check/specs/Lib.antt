pub mod inner
pub mod Causes
pub mod Check
pub mod Complete
pub mod Laws
