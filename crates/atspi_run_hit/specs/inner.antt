-- Words that only private contracts and proofs use: nothing here has to be believed.
pub mod Reads
pub mod Seen
pub mod Writes
