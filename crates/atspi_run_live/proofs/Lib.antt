pub mod OfWords
pub mod OfServing
pub mod Completing
