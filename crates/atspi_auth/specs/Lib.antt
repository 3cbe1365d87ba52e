pub mod Lines
pub mod Replies
pub mod Requests
pub mod Said
pub mod Talk
