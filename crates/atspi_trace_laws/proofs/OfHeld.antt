pub mod Holdings
pub mod Keeping
pub mod Reading
pub mod Speaking
pub mod LawHeld
