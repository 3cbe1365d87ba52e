-- Words that only private contracts and proofs use: nothing here has to be believed.
pub mod Changes
pub mod Moves
pub mod Telling
