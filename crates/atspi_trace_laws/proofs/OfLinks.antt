pub mod Ups
pub mod Lifting
pub mod LawLinks
pub mod TakenInOrder
