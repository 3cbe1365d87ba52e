-- Words that only private contracts and proofs use: nothing here has to be believed.
pub mod Seats
pub mod Serving
pub mod Cases
pub mod Rounds
pub mod Turns
