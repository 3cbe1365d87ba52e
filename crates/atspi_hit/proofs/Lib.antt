-- Lemmas on places, reach and cells.
pub mod Placed
pub mod Dropped
pub mod Reaching
pub mod Beside
