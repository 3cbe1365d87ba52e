pub mod Keys
pub mod Due
pub mod Chains
pub mod Within
pub mod Pushing
