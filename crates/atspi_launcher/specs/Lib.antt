pub mod inner
pub mod Asked
pub mod Described
pub mod Launching
pub mod Laws
