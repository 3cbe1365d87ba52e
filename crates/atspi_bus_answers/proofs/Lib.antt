pub mod NameTexts
pub mod Literals
pub mod Asked
pub mod OwnerNames
pub mod FirstText
pub mod RulePairs
pub mod MemberAnswers
