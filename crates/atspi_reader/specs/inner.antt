-- Words that only private contracts and proofs use: nothing here has to be believed.
pub mod Asked
pub mod Begin
pub mod Heard
pub mod Turns
