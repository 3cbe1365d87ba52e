pub mod Items
pub mod Keepings
