-- Words that only private contracts and proofs use: nothing here has to be believed.
pub mod Cuts
pub mod Deeds
pub mod Face
pub mod Selection
pub mod Switches
