pub mod happenings
pub mod hearing
pub mod starting
pub mod heeding
pub mod application
