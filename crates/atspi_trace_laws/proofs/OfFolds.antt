pub mod LawFolds
