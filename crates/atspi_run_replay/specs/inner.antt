-- Words that only private contracts and proofs use: nothing here has to be believed.
pub mod Input
pub mod Lines
pub mod Made
pub mod Play
pub mod Run
pub mod Told
