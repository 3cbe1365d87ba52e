pub mod CauseByCause
pub mod OfMake
