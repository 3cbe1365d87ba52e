pub mod inner
pub mod Sent
pub mod Moved
pub mod Speech
pub mod Rounds
pub mod Left
pub mod Talking
pub mod Reports
