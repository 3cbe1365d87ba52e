pub mod values
pub mod texts
pub mod changes
pub mod answers
