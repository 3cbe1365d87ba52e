pub mod Arguments
pub mod Events
pub mod CacheSignals
pub mod NewsOf
pub mod Replies
pub mod Cases
