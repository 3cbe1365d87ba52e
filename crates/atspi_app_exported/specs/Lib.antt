pub mod Parts
pub mod Doing
pub mod Asking
pub mod Boxed
