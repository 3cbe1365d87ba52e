pub mod OfApp
pub mod OfReader
pub mod OfRegistry
pub mod OfConversation
