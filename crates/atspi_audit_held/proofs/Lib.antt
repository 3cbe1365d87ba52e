pub mod Lacked
pub mod Collecting
pub mod Telling
pub mod Knowing
pub mod Stepping
pub mod Showing
