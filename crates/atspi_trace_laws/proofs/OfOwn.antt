pub mod Doing
pub mod Counting
pub mod Writing
pub mod LawOwn
