pub mod OfOwners
pub mod OfHanded
