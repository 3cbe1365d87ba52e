pub mod Bounds
pub mod Handed
pub mod LawLinks
