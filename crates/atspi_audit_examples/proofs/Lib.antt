pub mod Fronts
pub mod Small
