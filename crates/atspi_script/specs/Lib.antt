pub mod inner
pub mod MessageText
pub mod Spaced
pub mod ValueText
pub mod FaultText
