pub mod Served
pub mod LawCaches
