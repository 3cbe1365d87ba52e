pub mod limits
