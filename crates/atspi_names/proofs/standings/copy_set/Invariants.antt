use Rattle.std.proofs.Common.{◌≡◌, ◌||◌, ℕ, List}
use Rattle.std.specs.Ordering.{nat_cmp}
use Rattle.std.specs.Cmp.Lexicographic.{slice_cmp}
use Rattle.std.specs.List.{list_any}
use Rattle.std.specs.BTreeMap.{is_at}
use Rattle.std.specs.BTreeSet as set
use Rattle.atspi_names.proofs.standings.copy_set.Given as goal

abbrev pub invariant-loop-name : goal.invariant-loop-name
invariant-loop-name l =
    (q : List ℕ) → (set.contains (slice_cmp nat_cmp) l.copy q || list_any (is_at (slice_cmp nat_cmp q)) l.name-iterator) ≡ list_any (is_at (slice_cmp nat_cmp q)) l.initial.name-iterator
