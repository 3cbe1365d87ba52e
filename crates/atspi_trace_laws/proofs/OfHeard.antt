pub mod Pairs
pub mod Telling
pub mod Heeding
pub mod Quiet
pub mod LawHeard
