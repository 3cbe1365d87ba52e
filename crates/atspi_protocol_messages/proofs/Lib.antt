-- The lemmas about paths and words.
pub mod PathRule
pub mod Words
pub mod StateNames
