pub mod Spoken
pub mod Shows
pub mod Handed
pub mod Following
pub mod Runs
pub mod Cases
pub mod inner
