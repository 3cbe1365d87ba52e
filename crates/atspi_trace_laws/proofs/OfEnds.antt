pub mod News
pub mod Ordered
pub mod LawEnds
