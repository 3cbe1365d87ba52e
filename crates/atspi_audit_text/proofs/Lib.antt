pub mod Cuts
pub mod Messages
pub mod Fronts
pub mod Once
