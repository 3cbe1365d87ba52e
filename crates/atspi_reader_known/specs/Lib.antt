pub mod FollowedCode
pub mod Kept
pub mod Wanted
pub mod Unique
pub mod Planned
pub mod Places
pub mod Refusals
pub mod Listed
