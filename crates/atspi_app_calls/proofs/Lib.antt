pub mod OfReading
pub mod PathLemmas
pub mod Names
pub mod Members
pub mod PropertyLemmas
