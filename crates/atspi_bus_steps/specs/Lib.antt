pub mod inner
pub mod InnerBus
pub mod Sound
pub mod Spelled
pub mod Sayable
pub mod Spoken
pub mod Greeting
pub mod Farewell
