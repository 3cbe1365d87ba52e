-- Words that only private contracts and proofs use: nothing here has to be believed.
pub mod Lines
pub mod Ask
pub mod Interface
