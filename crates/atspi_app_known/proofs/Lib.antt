pub mod OfHappenings
pub mod OfHearing
pub mod OfHeard
pub mod OfStarting
pub mod OfHeeding
