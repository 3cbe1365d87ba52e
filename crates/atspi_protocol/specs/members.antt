pub mod Interfaces
pub mod Table
pub mod Objects
pub mod Arguments
pub mod Granularity
pub mod Asked
pub mod Cases
