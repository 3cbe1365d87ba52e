pub mod Links
pub mod Walk
pub mod Chains
pub mod Store
pub mod Pool
pub mod Examples
