pub mod EndedLemmas
pub mod Texts
