pub mod RoleNames
pub mod Indexes
pub mod RelationLemmas
