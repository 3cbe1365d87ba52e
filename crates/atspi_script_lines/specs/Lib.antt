pub mod inner
pub mod Words
pub mod Forms
pub mod Line
pub mod Laws
