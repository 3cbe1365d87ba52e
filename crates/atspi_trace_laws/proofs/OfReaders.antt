pub mod BusSaid
pub mod TellsBus
pub mod Fates
pub mod LawReaders
