pub mod OfGuarded
pub mod OfFace
pub mod AskedLemmas
pub mod SideLemmas
pub mod NodeLemmas
pub mod BufferLemmas
pub mod GapLemmas
pub mod KeptLemmas
