pub mod Lists
pub mod Coding
