-- Chains of bytes in blocks of 256 bytes.
use Rattle.std.specs.Prelude.{ℕ, ◌+◌, ◌-◌, ◌/◌, ◌%◌, ◌==◌, if◌then◌else◌, List, [], ◌++◌, length, take, drop}

-- a chain: its bytes, and how many bytes of its first block were popped
pub record Chain : Type 0 where
  pub popped : ℕ
  pub bytes : List ℕ

-- no bytes
abbrev pub empty_chain : Chain
empty_chain = record { popped = 0; bytes = [] }

-- how many blocks so many bytes fill, the last of them maybe in part
abbrev pub blocks_for : ℕ → ℕ
blocks_for bytes = (bytes + 255) / 256

-- how many blocks a chain has
abbrev pub blocks_of : Chain → ℕ
blocks_of chain = blocks_for (chain.popped + length chain.bytes)

-- the bytes of the first block
abbrev pub front_of : Chain → List ℕ
front_of chain = take (256 - chain.popped) chain.bytes

-- how many bytes fit into the last block of a chain, or into a new one where that is full
abbrev pub room_in : Chain → ℕ
room_in chain = 256 - (chain.popped + length chain.bytes) % 256

-- the chain with these bytes behind its own
abbrev pub pushed : Chain → List ℕ → Chain
pushed chain bytes = record { popped = chain.popped; bytes = chain.bytes ++ bytes }

-- the chain without its first bytes
abbrev pub popped_by : Chain → ℕ → Chain
popped_by chain n =
    if length chain.bytes == n then empty_chain
    else record { popped = (chain.popped + n) % 256; bytes = drop n chain.bytes }

-- the chain without its last bytes
abbrev pub cut_by : Chain → ℕ → Chain
cut_by chain n =
    if length chain.bytes == n then empty_chain
    else record { popped = chain.popped; bytes = take (length chain.bytes - n) chain.bytes }
