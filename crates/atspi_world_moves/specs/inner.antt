-- Words that only private contracts and proofs use: nothing here has to be believed.
pub mod Routed
pub mod Told
pub mod Beginning
pub mod Downs
pub mod Filled
pub mod GivenUp
pub mod Halted
pub mod Moving
pub mod Waits
