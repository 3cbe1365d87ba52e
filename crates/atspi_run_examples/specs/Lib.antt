pub mod Small
pub mod make
