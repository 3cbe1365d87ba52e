pub mod RegistryState
pub mod Told
pub mod Answers
pub mod Steps
pub mod Laws
pub mod Room
