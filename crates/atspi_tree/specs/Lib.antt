pub mod inner
pub mod TreeShape
pub mod NextNode
pub mod Namers
pub mod Table
pub mod Relations
pub mod Seats
