pub mod Facts
pub mod Linked
pub mod Seated
pub mod Kept
pub mod OfLimits
