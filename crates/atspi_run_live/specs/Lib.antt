pub mod Words
pub mod Serves
pub mod Complete
pub mod Statuses
