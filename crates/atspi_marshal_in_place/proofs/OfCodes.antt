pub mod Checking
pub mod FirstType
pub mod MarkLaws
pub mod MarkRoom
pub mod ParseAnswers
pub mod Parts
pub mod Spelled
