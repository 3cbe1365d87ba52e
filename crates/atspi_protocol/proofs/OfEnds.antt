pub mod Words
pub mod Numbered
