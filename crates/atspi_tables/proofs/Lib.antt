pub mod First
pub mod NameLemmas
