pub mod Reaching
pub mod LawDrops
