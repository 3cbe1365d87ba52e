pub mod caches
pub mod ways
pub mod served
pub mod settled
