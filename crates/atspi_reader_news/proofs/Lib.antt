pub mod Steps
pub mod Given
pub mod Came
pub mod ItemSteps
pub mod Same
pub mod Told
pub mod Lists
