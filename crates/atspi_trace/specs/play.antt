pub mod Playing
pub mod Plays
pub mod Played
pub mod Breaking
