-- The chains of a pool as a list, by their numbers.
use Rattle.std.specs.Prelude.{◌≡◌, ℕ, ◌+◌, ◌*◌, ◌^◌, ◌<◌, false, if◌then◌else◌, List, ◌++◌, length, take, drop, set}
use Rattle.std.specs.Prelude.{map, sum_by, slice_index_or, Option, Some, None}
use Rattle.std.specs.List.{flat_map}
use Rattle.atspi_pool.specs.Chains.{Chain, empty_chain, blocks_for, blocks_of, pushed}
use Rattle.atspi_pool.specs.Links.{Entry, Linked, no_entry}

-- how many blocks were made, and each chain, or None where its number is not in use
pub record Store : Type 0 where
  pub made : ℕ
  pub chains : List (Option Chain)

-- the blocks of a chain that may not be in use
abbrev pub blocks_in : Option Chain → ℕ
blocks_in None = 0
blocks_in (Some chain) = blocks_of chain

-- the blocks of all chains
abbrev pub all_blocks : List (Option Chain) → ℕ
all_blocks chains = sum_by blocks_in chains

-- a chain by its number, an empty one where the number is not in use
abbrev pub held : Option Chain → Chain
held None = empty_chain
held (Some chain) = chain

abbrev pub chain_at : Store → ℕ → Option Chain
chain_at s chain = slice_index_or s.chains chain None

-- the same with another chain there
abbrev pub with_chain : Store → ℕ → Option Chain → Store
with_chain s chain c = record s { chains = set s.chains chain c }

-- the same with these bytes behind a chain's
abbrev pub with_pushed : Store → ℕ → List ℕ → Store
with_pushed s chain bytes = with_chain s chain (Some (pushed (held (chain_at s chain)) bytes))

-- the 256 bytes of a block
abbrev pub block_bytes : List ℕ → ℕ → List ℕ
block_bytes bytes block = take 256 (drop (256 * block) bytes)

-- the bytes of blocks, one behind the other
abbrev pub contents : List ℕ → List ℕ → List ℕ
contents bytes blocks = flat_map (block_bytes bytes) blocks

-- the chain that stands in its blocks
abbrev pub chain_in : List ℕ → Entry → Option Chain
chain_in bytes e =
    if e.marks.is_used then Some (record {
      popped = e.marks.popped;
      bytes = drop e.marks.popped (take (e.marks.popped + e.marks.len) (contents bytes e.blocks));
    })
    else None

abbrev pub store_of : List ℕ → Linked → Store
store_of bytes l = record { made = l.made; chains = map (chain_in bytes) l.chains }

-- the front of a chain: of its first block fewer bytes were popped than it has, and of an empty chain none
abbrev pub HasFront : Option Chain → Type 0
HasFront None = Unit {0}
HasFront (Some chain) = (chain.popped < 256) × (length chain.bytes ≡ 0 → chain.popped ≡ 0)

-- a piece written over bytes, from a place on
abbrev pub written : List ℕ → ℕ → List ℕ → List ℕ
written bytes at piece = take at bytes ++ (piece ++ drop (at + length piece) bytes)

-- a chain has as many blocks as its bytes fill, those of its first block that were popped counted too
pub record IsFit (e : Entry) : Type 0 where
  pub count : length e.blocks ≡ blocks_for (e.marks.popped + e.marks.len)
  pub front : e.marks.popped < 256
  pub small : e.marks.len < 2 ^ 32
  pub empty : e.marks.len ≡ 0 → e.marks.popped ≡ 0
  pub unused : e.marks.is_used ≡ false → e.marks.len ≡ 0

pub record IsStore (bytes : List ℕ) (l : Linked) : Type 0 where
  pub room : length bytes ≡ 256 * l.made
  pub fit : (q : ℕ) → IsFit (slice_index_or l.chains q no_entry)
