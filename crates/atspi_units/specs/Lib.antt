pub mod Units
pub mod Pieces
pub mod Windows
pub mod inner
