pub mod Caches
pub mod Laws
