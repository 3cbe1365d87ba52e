pub mod Digits
pub mod Outside
pub mod Places
pub mod Quoted
pub mod ReadsText
pub mod Text
pub mod valid_names
