pub mod inner
pub mod Seen
pub mod Place
pub mod Counted
pub mod Laws
pub mod Told
pub mod Asking
pub mod Replies
