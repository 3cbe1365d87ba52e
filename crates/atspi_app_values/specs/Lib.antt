pub mod Numbers
pub mod Relations
