pub mod Seams
pub mod Stretches
