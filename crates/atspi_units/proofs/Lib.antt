pub mod CutLemmas
pub mod LineLemmas
pub mod WordLemmas
pub mod CharLemmas
pub mod PlainLemmas
pub mod SeamLemmas
pub mod StretchLemmas
pub mod PieceLemmas
