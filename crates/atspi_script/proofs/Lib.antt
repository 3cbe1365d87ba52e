pub mod MessageLemmas
pub mod NumberLemmas
pub mod PathLemmas
pub mod QuoteLemmas
pub mod Sizes
pub mod TextLemmas
