pub mod CheckLemmas
pub mod Completing
pub mod EndLemmas
