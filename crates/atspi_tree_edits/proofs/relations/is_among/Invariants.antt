use Rattle.std.proofs.Common.{◌≡◌, drop}
use Rattle.atspi_tree_model.specs.Edits.{is_among}
use Rattle.atspi_tree_edits.proofs.relations.is_among.Given as goal

abbrev pub invariant-loop-n : goal.invariant-loop-n
invariant-loop-n l = is_among l.number l.numbers ≡ is_among l.number (drop l.n-index l.numbers)
