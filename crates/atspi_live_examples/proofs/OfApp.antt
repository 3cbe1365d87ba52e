pub mod Rounds
pub mod Asked
pub mod Paced
pub mod Waiting
pub mod Granted
