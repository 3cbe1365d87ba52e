pub mod Reading
pub mod Doing
pub mod Sending
