use Rattle.std.proofs.Common.{◌≡◌, ◌+◌, drop}
use Rattle.atspi_tree.specs.inner.Places.{index_in}
use Rattle.atspi_tree_edits.proofs.moves.index_of.Given as goal

abbrev pub invariant-loop-i : goal.invariant-loop-i
invariant-loop-i l = index_in l.number l.numbers ≡ l.i + index_in l.number (drop l.i l.numbers)
