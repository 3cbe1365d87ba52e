-- Lemmas on what a call comes to.
pub mod Members
pub mod HasCounts
pub mod Done
pub mod Coming
