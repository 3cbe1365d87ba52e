pub mod OfLoading
pub mod Plain
pub mod Effects
pub mod ViewLemmas
pub mod LoadLemmas
pub mod NameLemmas
