pub mod Rows
pub mod Tables
pub mod Telling
pub mod Kept
