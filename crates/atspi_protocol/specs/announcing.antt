pub mod Signals
pub mod Announced
pub mod Laws
pub mod Cases
