pub mod Examples
pub mod Items
pub mod Known
pub mod Passing
pub mod Paths
pub mod codes
