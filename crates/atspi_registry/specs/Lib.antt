pub mod inner
pub mod told
pub mod lists
pub mod calls
pub mod Code
