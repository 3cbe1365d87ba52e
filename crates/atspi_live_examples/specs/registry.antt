pub mod Registries
