-- Words that only private contracts and proofs use: nothing here has to be believed.
pub mod Heard
pub mod Questions
pub mod Steps
