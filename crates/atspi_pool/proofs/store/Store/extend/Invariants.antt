use Rattle.std.proofs.Common.{◌≡◌, ◌<◌, ℕ, List, length}
use Rattle.std.specs.Prelude.{IsSome}
use Rattle.atspi_pool.specs.Store.{Store, chain_at, with_pushed}
use Rattle.atspi_pool.proofs.store.Store.extend.Given as goal

-- what is left to append brings the chain to what all the bytes do
pub record IsExtending (was now : Store) (chain : ℕ) (bytes rest : List ℕ) : Type 0 where
  pub within : chain < length now.chains
  pub used : IsSome (chain_at now chain)
  pub same : with_pushed now chain rest ≡ with_pushed was chain bytes

abbrev pub invariant-loop-rest : goal.invariant-loop-rest
invariant-loop-rest l = IsExtending l.fn.self l.self l.chain l.fn.bytes l.rest

abbrev pub decreases-loop-rest : goal.decreases-loop-rest
decreases-loop-rest l = length l.rest
