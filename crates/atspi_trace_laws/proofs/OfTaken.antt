pub mod Found
pub mod Said
pub mod Handing
pub mod LawTaken
