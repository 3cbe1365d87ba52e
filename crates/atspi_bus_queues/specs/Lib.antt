pub mod Once
pub mod DueList
pub mod Change
pub mod QueueMap
pub mod Space
pub mod Held
pub mod Each
