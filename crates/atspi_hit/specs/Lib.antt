pub mod inner
pub mod Places
pub mod Pointing
pub mod Cells
