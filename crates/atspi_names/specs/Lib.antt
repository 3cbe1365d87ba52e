pub mod Book
pub mod Hello
pub mod Owners
pub mod Queue
pub mod Standings
pub mod Tree
