pub mod Exporter
pub mod Hearing
pub mod Telling
pub mod Starting
pub mod Taking
pub mod Laws
pub mod Cases
