pub mod Found
pub mod Ways
pub mod Tests
pub mod Replies
pub mod Forgotten
pub mod GivenUp
pub mod Starting
