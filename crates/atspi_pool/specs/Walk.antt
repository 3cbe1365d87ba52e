-- How the table of links is read: from a block to the one behind it.
use Rattle.std.specs.Prelude.{◌≡◌, ℕ, suc, zero, ◌-◌, ◌<◌, List, [], ◌∷◌, map, length, slice_index, slice_index_or}
use Rattle.std.specs.Prelude.{false}
use Rattle.atspi_pool.specs.declared.run.Run.{Run}
use Rattle.atspi_pool.specs.Links.{Entry, Linked, IsApart}

-- so many blocks from this one on
abbrev pub walk : List ℕ → ℕ → ℕ → List ℕ
walk next block zero = []
walk next block (suc n) = block ∷ walk next (slice_index next block) n

-- the blocks of a chain
abbrev pub entry_of : List ℕ → Run → Entry
entry_of next run = record { marks = run.marks; blocks = walk next run.first run.count }

-- the table with its free blocks and its chains
abbrev pub linked_of : List ℕ → ℕ → ℕ → List Run → Linked
linked_of next first_free free runs =
    record { made = length next; unused = walk next first_free free; chains = map (entry_of next) runs }

abbrev pub no_run : Run
no_run = record { first = 0; last = 0; count = 0; marks = record { is_used = false; popped = 0; len = 0 } }

-- the block that a chain names as its last is its last
abbrev pub EndsRight : List ℕ → Run → Type 0
EndsRight next run = 0 < run.count → slice_index (walk next run.first run.count) (run.count - 1) ≡ run.last

pub record IsLinked (next : List ℕ) (first_free free : ℕ) (runs : List Run) : Type 0 where
  pub apart : IsApart (linked_of next first_free free runs)
  pub ends : (q : ℕ) → q < length runs → EndsRight next (slice_index_or runs q no_run)
