-- Every block is free or in exactly one chain: the blocks of a pool by their numbers.
use Rattle.std.specs.Prelude.{◌≡◌, ℕ, ◌+◌, ◌-◌, false, nat_lt, ◌==◌, if◌then◌else◌, List, [], ◌∷◌, ◌++◌, set, length}
use Rattle.std.specs.Prelude.{take, drop, slice_index_or, slice_index, count_by, sum_by}
use Rattle.atspi_pool.specs.declared.run.Marks.{Marks}

-- a chain: what stands beside its blocks, and their numbers in order
pub record Entry : Type 0 where
  pub marks : Marks
  pub blocks : List ℕ

-- how many blocks were made, which are free, the next to be taken first, and each chain
pub record Linked : Type 0 where
  pub made : ℕ
  pub unused : List ℕ
  pub chains : List Entry

-- what no chain has
abbrev pub no_entry : Entry
no_entry = record { marks = record { is_used = false; popped = 0; len = 0 }; blocks = [] }

-- the chain of this number
abbrev pub entry_at : Linked → ℕ → Entry
entry_at l chain = slice_index_or l.chains chain no_entry

-- the same with another chain there
abbrev pub with_entry : Linked → ℕ → Entry → Linked
with_entry l chain e = record l { chains = set l.chains chain e }

-- how often a number stands in a list
abbrev pub times : ℕ → List ℕ → ℕ
times x xs = count_by (λ y. y == x) xs

-- each block that was made is free or in a chain, and stands just once in all of them
pub record IsApart (l : Linked) : Type 0 where
  pub once : (x : ℕ)
      → times x l.unused + sum_by (λ (e : Entry). times x e.blocks) l.chains ≡ (if nat_lt x l.made then 1 else 0)
  pub counted : length l.unused + sum_by (λ (e : Entry). length e.blocks) l.chains ≡ l.made

-- the first of a list of numbers
abbrev pub first_of : List ℕ → ℕ
first_of xs = slice_index xs 0

-- the last of a list of numbers
abbrev pub last_of : List ℕ → ℕ
last_of xs = slice_index xs (length xs - 1)

-- the same with these blocks in a chain, and these free
abbrev pub with_blocks : Linked → List ℕ → ℕ → List ℕ → Linked
with_blocks l unused chain blocks =
    with_entry (record l { unused = unused }) chain (record { marks = (entry_at l chain).marks; blocks = blocks })

-- the first free block stands behind those of a chain
abbrev pub taken : Linked → ℕ → Linked
taken l chain = with_blocks l (drop 1 l.unused) chain ((entry_at l chain).blocks ++ first_of l.unused ∷ [])

-- the first blocks of a chain are free
abbrev pub front_given : Linked → ℕ → ℕ → Linked
front_given l chain count =
    with_blocks l (take count (entry_at l chain).blocks ++ l.unused) chain (drop count (entry_at l chain).blocks)

-- all but the first blocks of a chain are free
abbrev pub front_kept : Linked → ℕ → ℕ → Linked
front_kept l chain count =
    with_blocks l (drop count (entry_at l chain).blocks ++ l.unused) chain (take count (entry_at l chain).blocks)

-- a chain has other marks
abbrev pub marked : Linked → ℕ → Marks → Linked
marked l chain marks = with_entry l chain (record { marks = marks; blocks = (entry_at l chain).blocks })
