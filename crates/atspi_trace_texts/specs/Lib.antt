pub mod Written
pub mod EventForms
pub mod Rows
pub mod EventText
pub mod TraceText
pub mod InTrace
pub mod Laws
