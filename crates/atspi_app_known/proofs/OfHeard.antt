-- Lemmas about texts, sets of pairs, and lists without some.
pub mod Same
pub mod Less
pub mod Firsts
pub mod Lent
