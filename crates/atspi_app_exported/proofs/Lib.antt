-- Lemmas on the parts of what is exported.
pub mod ReadOut
pub mod Copied
pub mod Opened
pub mod Closed
pub mod Changing
pub mod Following
pub mod Known
pub mod OneByOne
pub mod AllDone
pub mod Steps
pub mod EitherOrder
pub mod Exchanged
