pub mod OfSockets
