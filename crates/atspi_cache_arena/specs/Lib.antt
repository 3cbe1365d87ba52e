pub mod Keys
pub mod Table
pub mod Arena
pub mod Change
pub mod Sights
pub mod Walk
