pub mod Rising
pub mod Doing
pub mod Turning
pub mod LawTurns
