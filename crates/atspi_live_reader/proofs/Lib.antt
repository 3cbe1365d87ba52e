pub mod Framing
pub mod Sending
pub mod Handing
pub mod Turning
pub mod Running
pub mod Shown
pub mod Started
pub mod FirstRounds
