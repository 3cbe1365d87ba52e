pub mod Known
pub mod Long
pub mod Within
pub mod Deciding
