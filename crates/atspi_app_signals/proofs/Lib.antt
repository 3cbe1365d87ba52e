-- Signals that are asked for, nodes at their places, what is told by a shape, and steps that can be told before others are done.
pub mod Asked
pub mod Placed
pub mod Told
pub mod Staying
pub mod EditsStay
pub mod CallsStay
