pub mod Launching
pub mod Running
