pub mod Faults
pub mod Input
pub mod Laws
pub mod Reading
pub mod Spelling
pub mod Writing
