-- Lemmas on arguments and answers.
pub mod Taken
pub mod Nodes
pub mod Answered
