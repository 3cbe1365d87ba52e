pub mod MoveLemmas
pub mod CursorLemmas
