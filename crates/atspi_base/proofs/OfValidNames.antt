pub mod ElementLemmas
pub mod NameLemmas
pub mod WalkLemmas
