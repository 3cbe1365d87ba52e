pub mod OfValues
pub mod OfTexts
pub mod OfChanges
pub mod OfAnswers
