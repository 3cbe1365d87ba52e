pub mod LiveLemmas
pub mod Words
pub mod Lawful
