pub mod Standing
pub mod LawViews
