-- Words that only private contracts and proofs use: nothing here has to be believed.
pub mod Arguments
pub mod Object
pub mod Ask
