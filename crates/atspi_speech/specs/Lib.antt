pub mod Words
pub mod Speech
pub mod Looked
pub mod Laws
pub mod Cases
