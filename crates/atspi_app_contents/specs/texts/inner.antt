-- Words that only private contracts and proofs use: nothing here has to be believed.
pub mod Parts
pub mod Places
pub mod Selections
pub mod Texts
