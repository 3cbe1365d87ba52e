pub mod Found
pub mod Seen
pub mod Chosen
pub mod CellLemmas
pub mod Contents
