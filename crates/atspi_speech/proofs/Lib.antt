pub mod PlainLemmas
pub mod LineLemmas
pub mod LookedLemmas
pub mod DueLemmas
