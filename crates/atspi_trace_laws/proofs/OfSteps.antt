pub mod Doings
pub mod Takings
pub mod Trees
pub mod Steps
pub mod Stepping
pub mod LawSteps
pub mod LawNodes
