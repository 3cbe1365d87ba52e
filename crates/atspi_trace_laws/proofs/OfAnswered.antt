pub mod Items
pub mod Parts
pub mod Counted
pub mod LawAnswered
