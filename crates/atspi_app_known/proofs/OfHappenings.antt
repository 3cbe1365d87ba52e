-- What is queued behind what waits already.
pub mod Waiting
