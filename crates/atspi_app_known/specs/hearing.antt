pub mod inner
pub mod Lent
pub mod Changes
