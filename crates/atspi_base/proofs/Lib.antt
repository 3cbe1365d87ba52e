pub mod TextLemmas
pub mod PlaceLemmas
pub mod QuotedLemmas
pub mod OfValidNames
