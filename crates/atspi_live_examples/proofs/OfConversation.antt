pub mod Given
pub mod Ended
pub mod Logged
pub mod Conversing
