pub mod CommandLemmas
pub mod LiveLemmas
pub mod TaskLemmas
pub mod WordLemmas
pub mod MakeLemmas
