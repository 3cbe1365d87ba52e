pub mod EditLemmas
pub mod Exchanged
pub mod Changed
pub mod Known
