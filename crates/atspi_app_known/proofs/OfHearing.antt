-- Bus names as characters, and values that are no pair.
pub mod Names
pub mod Values
