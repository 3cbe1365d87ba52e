-- The queue of each connection as a chain of one pool.
use Rattle.std.specs.Prelude.{◌≡◌, ℕ, ◌^◌, ◌<◌, List, map, length, Option, Some, IsSome}
use Rattle.std.specs.Ordering.{nat_cmp}
use Rattle.std.specs.Map.{keys_of, lookup}
use Rattle.std.specs.List.Sorted.{IsStrictlySortedBy}
use Rattle.std.specs.BTreeMap.{is_at}
use Rattle.std.specs.FinMap.{FinMap, from_entries}
use Rattle.atspi_pool.specs.Store.{Store, chain_at, held}
use Rattle.atspi_pool.specs.Pool.{in_use}

-- the chain of a connection, if it has one
abbrev pub chain_of : List (ℕ × ℕ) → ℕ → Option ℕ
chain_of chains conn = lookup (is_at (nat_cmp conn)) chains

abbrev pub bytes_in : Store → ℕ → List ℕ
bytes_in pool chain = (held (chain_at pool chain)).bytes

abbrev pub queues_of : Store → List (ℕ × ℕ) → FinMap nat_cmp (List ℕ)
queues_of pool chains = from_entries (map (λ (e : ℕ × ℕ). (e.0, bytes_in pool e.1)) chains)

-- each connection has a chain of its own, and the pool has no others
pub record HasChains (pool : Store) (chains : List (ℕ × ℕ)) : Type 0 where
  pub used : (conn chain : ℕ) → chain_of chains conn ≡ Some chain → IsSome (chain_at pool chain)
  pub apart : (c d chain : ℕ) → chain_of chains c ≡ Some chain → chain_of chains d ≡ Some chain → c ≡ d
  pub counted : in_use pool.chains ≡ length chains
  pub ordered : IsStrictlySortedBy nat_cmp (keys_of chains)
  pub small : (conn chain : ℕ) → chain_of chains conn ≡ Some chain → conn < 2 ^ 32
