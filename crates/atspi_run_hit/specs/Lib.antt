pub mod inner
pub mod Words
pub mod Wholes
pub mod Scene
pub mod Told
pub mod Names
pub mod Run
