pub mod Times
pub mod Steps
