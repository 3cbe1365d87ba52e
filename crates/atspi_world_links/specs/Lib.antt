pub mod Changes
pub mod Firsts
pub mod Named
pub mod Posts
