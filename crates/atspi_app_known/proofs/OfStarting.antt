-- The unique name, values that are none, and what is queued.
pub mod Unique
pub mod Queueing
pub mod Rule
