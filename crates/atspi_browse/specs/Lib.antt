pub mod inner
pub mod UnitLine
pub mod Cursor
pub mod Fits
pub mod Places
