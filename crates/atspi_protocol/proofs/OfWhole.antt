-- The lemmas of the laws.
pub mod Faces
pub mod Followed
