pub mod SpaceLemmas
pub mod NumberLemmas
pub mod QuoteLemmas
pub mod LeadLemmas
pub mod FormLemmas
pub mod ClauseLemmas
pub mod OnceLemmas
pub mod PartLemmas
