-- The lemmas of the laws.
pub mod Queued
pub mod Quiet
pub mod Answered
pub mod Rising
pub mod Signed
pub mod Applying
pub mod Staying
pub mod Typed
