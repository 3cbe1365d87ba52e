pub mod MessageLemmas
pub mod Sizes
pub mod TextLemmas
pub mod TypeLemmas
