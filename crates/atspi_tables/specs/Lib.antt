pub mod Roles
pub mod States
pub mod Names
