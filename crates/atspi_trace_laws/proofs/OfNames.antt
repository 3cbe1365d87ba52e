pub mod Naming
pub mod Places
pub mod LawNames
pub mod Bounds
pub mod LawEnds
