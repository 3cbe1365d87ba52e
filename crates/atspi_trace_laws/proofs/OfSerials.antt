pub mod Serial
pub mod Speaking
pub mod Numbers
pub mod Causing
pub mod Hushing
pub mod LawNumbers
