pub mod Joined
pub mod Saying
pub mod Replying
mod Claims
mod Exclusives
mod Heard
mod Unqueued
mod Leavings
mod Orders
mod Heirs
