pub mod OfWords
pub mod OfRun
