pub mod Boxes
pub mod Contents
pub mod Nodes
pub mod Examples
