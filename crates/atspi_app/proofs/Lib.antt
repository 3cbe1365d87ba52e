-- Lemmas on an application as it is seen, and on what it tells of steps.
pub mod Shown
pub mod FaultsOf
pub mod Unnumbered
pub mod Told
pub mod OfEdits
pub mod OfCalls
pub mod OfCalled
