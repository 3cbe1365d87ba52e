pub mod OfReadings
pub mod Passing
