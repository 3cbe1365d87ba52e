pub mod GrantLemmas
pub mod LinesLemmas
pub mod TalkLemmas
pub mod HearingLemmas
pub mod TellsLemmas
pub mod WholeLemmas
pub mod LawLemmas
