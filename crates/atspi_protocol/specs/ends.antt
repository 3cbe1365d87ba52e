pub mod DataCode
pub mod Places
pub mod Messages
pub mod Covering
