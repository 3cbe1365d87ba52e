pub mod inner
pub mod Codes
pub mod Shapes
pub mod TyRefs
