pub mod ReaderState
pub mod Calls
pub mod Wishes
pub mod Known
pub mod Replied
pub mod Takes
pub mod Cases
