pub mod TextLemmas
pub mod PieceLemmas
