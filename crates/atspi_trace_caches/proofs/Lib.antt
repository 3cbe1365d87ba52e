pub mod OfCaches
pub mod OfServed
pub mod OfWays
pub mod OfSettled
