pub mod owners
pub mod handed
