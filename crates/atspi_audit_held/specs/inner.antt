pub mod Lacking
pub mod Rows
