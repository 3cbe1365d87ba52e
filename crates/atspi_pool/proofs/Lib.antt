pub mod WalkLemmas
pub mod LinkLemmas
pub mod LinkMoves
pub mod LinkSpecs
pub mod BlockLemmas
pub mod StoreLemmas
pub mod PushLemmas
pub mod PoolLemmas
