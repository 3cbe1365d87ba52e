pub mod OfEnds
pub mod OfNews
pub mod OfAnnouncing
pub mod OfExporting
pub mod OfRegistering
pub mod OfRegistryLaws
pub mod OfFollowing
pub mod OfWhole
