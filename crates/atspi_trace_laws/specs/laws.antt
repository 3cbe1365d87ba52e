pub mod Words
pub mod NineLaws
pub mod Laws
