pub mod RisingLemmas
pub mod WalkLemmas
pub mod OwnLemmas
pub mod SharedLemmas
pub mod OrderLemmas
pub mod PreorderLemmas
pub mod FillLemmas
