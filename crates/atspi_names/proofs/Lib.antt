pub mod Copies
pub mod QueueLemmas
pub mod Maps
pub mod ListsLemmas
pub mod BookLemmas
pub mod OwnersLemmas
pub mod UniqueLemmas
pub mod HelloLemmas
