-- A pool as its callers see it.
use Rattle.std.specs.Prelude.{◌≡◌, ◌≢◌, ℕ, ◌+◌, ◌/◌, ◌<◌, ◌≤◌, ◌⊎◌, ◌∷◌, ◌==◌, nat_lt, if◌then◌else◌, ◌&&◌, is_none}
use Rattle.std.specs.Prelude.{is_some, List, [], length, count_by, sum_by, max, Option, Some, None}
use Rattle.atspi_pool.specs.Chains.{Chain, blocks_of}
use Rattle.atspi_pool.specs.Links.{times}
use Rattle.atspi_pool.specs.Store.{Store, chain_at, with_pushed, blocks_in, all_blocks}

-- no block and no chain
abbrev pub no_pool : Store
no_pool = record { made = 0; chains = [] }

-- how many chains are in use
abbrev pub in_use : List (Option Chain) → ℕ
in_use chains = count_by is_some chains

-- one chain is this now, and all else is as it was
pub record SetsChain (old new : Store) (chain : ℕ) (c : Option Chain) : Type 0 where
  pub named : chain_at new chain ≡ c
  pub others : (q : ℕ) → q ≢ chain → chain_at new q ≡ chain_at old q
  pub made : new.made ≡ old.made

-- the chain has the bytes behind its own, and only as many blocks were made as were missing
abbrev pub after_push : Store → ℕ → List ℕ → Store
after_push s chain bytes =
    record (with_pushed s chain bytes) { made = max s.made (all_blocks (with_pushed s chain bytes).chains) }

-- each number below the table's length is in use or stands once among those that are not
pub record IsNumbered (s : Store) (unused : List ℕ) (capacity : ℕ) : Type 0 where
  pub once : (q : ℕ) → times q unused ≡ (if nat_lt q (length s.chains) && is_none (chain_at s q) then 1 else 0)
  pub counted : length unused + in_use s.chains ≡ length s.chains
  pub room : length s.chains ≤ capacity

-- the most blocks that a chain of so many bytes has
abbrev pub most_for : ℕ → ℕ
most_for bytes = if bytes == 0 then 0 else bytes / 256 + 2

abbrev pub most_in : Option Chain → ℕ
most_in None = 0
most_in (Some chain) = most_for (length chain.bytes)

-- the most blocks that chains of their lengths have
abbrev pub most_of : List (Option Chain) → ℕ
most_of chains = sum_by most_in chains

-- no chain has more blocks than one of its length may have
abbrev pub HasFewBlocks : Store → Type 0
HasFewBlocks s = (q : ℕ) → blocks_in (chain_at s q) ≤ most_in (chain_at s q)

-- a call and the most blocks that chains of the lengths behind it have: a push that makes blocks, also one that runs
-- out of memory, whose chain counts with all the bytes, or a call that makes none
abbrev pub IsCall : Store → Store → ℕ → Type 0
IsCall old new most =
    ((chain : ℕ) × (bytes : List ℕ)
    × ((most ≡ most_of (with_pushed old chain bytes).chains) × (new.made ≤ max old.made most)))
    ⊎ ((most ≡ most_of new.chains) × (new.made ≡ old.made))

-- calls one behind the other, each with its most and the state that it leaves
abbrev pub AreCalls : Store → List (ℕ × Store) → Type 0
AreCalls s [] = Unit {0}
AreCalls s (call ∷ calls) = IsCall s call.1 call.0 × AreCalls call.1 calls

-- how many blocks were made when they are over
abbrev pub made_after : Store → List (ℕ × Store) → ℕ
made_after s [] = s.made
made_after s (call ∷ calls) = made_after call.1 calls

-- the greatest most of all calls
abbrev pub greatest : List (ℕ × Store) → ℕ
greatest [] = 0
greatest (call ∷ calls) = max call.0 (greatest calls)

-- over every list of calls of a new pool, no more blocks are made than the greatest most
abbrev pub MadeIsBound : Type 0
MadeIsBound = (calls : List (ℕ × Store)) → AreCalls no_pool calls → made_after no_pool calls ≤ greatest calls

-- a chain has no block where it is empty, and else at most two more than its bytes fill
abbrev pub BlocksAreFew : Type 0
BlocksAreFew = (chain : Chain) → chain.popped < 256 → (length chain.bytes ≡ 0 → chain.popped ≡ 0)
    → blocks_of chain ≤ most_for (length chain.bytes)
