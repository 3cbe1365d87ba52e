mod Namings
mod PlayingOut
pub mod OfProtocol
pub mod OfRouting
