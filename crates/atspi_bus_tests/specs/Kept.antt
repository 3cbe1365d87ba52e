-- What the tests keep of a pool: which chains are in use.
use Rattle.std.specs.Prelude.{◌≡◌, ℕ, ◌<◌, List, length, slice_index, IsSome}
use Rattle.atspi_pool.specs.Store.{Store, chain_at}
use Rattle.atspi_pool.specs.Pool.{in_use}

-- chains in use stay so, and no more are
pub record KeepsChains (old new : Store) : Type 0 where
  pub used : (q : ℕ) → IsSome (chain_at old q) → IsSome (chain_at new q)
  pub count : in_use new.chains ≡ in_use old.chains

-- all of these chains are in use
abbrev pub AllUsed : Store → List ℕ → Type 0
AllUsed s numbers = (k : ℕ) → k < length numbers → IsSome (chain_at s (slice_index numbers k))
