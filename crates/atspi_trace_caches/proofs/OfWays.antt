pub mod LawWays
pub mod There
pub mod LawThere
