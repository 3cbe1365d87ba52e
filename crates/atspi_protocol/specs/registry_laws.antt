pub mod Sends
pub mod Asked
