pub mod Started
pub mod FirstRounds
