-- The lemmas of the laws.
pub mod Bounds
pub mod Seated
pub mod Back
pub mod Told
