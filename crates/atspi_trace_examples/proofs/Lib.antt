pub mod OfHeld
pub mod OfSettled
pub mod OfTraces
pub mod OfTrace
