pub mod Readers
pub mod Views
pub mod Late
pub mod Lasts
pub mod Playing
pub mod Lending
