pub mod Hello
pub mod Here
pub mod Alone
pub mod LawQuiet
