pub mod WordLemmas
pub mod FollowLemmas
pub mod ArgumentLemmas
pub mod ChangeLemmas
pub mod KeyLemmas
pub mod PlaceLemmas
