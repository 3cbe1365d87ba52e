pub mod Fitting
pub mod Scripts
pub mod Same
pub mod Verdicts
pub mod Answered
