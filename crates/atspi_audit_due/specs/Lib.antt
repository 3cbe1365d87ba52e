pub mod Readers
pub mod Fits
pub mod Verdicts
pub mod Laws
