-- A walk over a tree meets each node once, and so tells all items.
pub mod Known
pub mod Walked
pub mod Named
pub mod Few
