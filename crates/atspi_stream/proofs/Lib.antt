pub mod StreamLaws
pub mod NextLaws
