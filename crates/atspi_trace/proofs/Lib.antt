pub mod Following
pub mod Maps
pub mod RulesRead
pub mod Working
pub mod OfPlay
