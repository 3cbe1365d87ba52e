pub mod inner
pub mod reading
pub mod Interface
pub mod Object
pub mod Ask
