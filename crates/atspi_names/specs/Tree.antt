-- The tree that keeps the lists.
use Rattle.std.specs.Prelude.{ℕ, List}
use Rattle.std.specs.Ordering.{nat_cmp}
use Rattle.std.specs.Cmp.Lexicographic.{slice_cmp}
use Rattle.std.specs.BTreeMap.{BTreeMap}
use Rattle.std.specs.FinMap.{FinMap, from_entries}

-- the tree as a finite map
abbrev pub as_lists : BTreeMap (List ℕ) (List (ℕ × ℕ)) → FinMap {K = List ℕ} (slice_cmp nat_cmp) (List (ℕ × ℕ))
as_lists tree = from_entries tree.entries

-- the tree that keeps the unique names, as a finite map
abbrev pub as_unique : BTreeMap ℕ (List ℕ) → FinMap nat_cmp (List ℕ)
as_unique tree = from_entries tree.entries
