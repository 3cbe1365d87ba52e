pub mod Drops
pub mod Lost
pub mod Alive
