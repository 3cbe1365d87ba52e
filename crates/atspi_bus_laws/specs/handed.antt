pub mod Known
pub mod Handing
pub mod Sizes
pub mod Naming
