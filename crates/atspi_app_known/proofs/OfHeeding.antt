-- Lemmas on messages that are answered, and on those that are not.
pub mod Heeded
