-- Words that only private contracts and proofs use: nothing here has to be believed.
pub mod Stops
pub mod Asking
pub mod Input
pub mod Live
