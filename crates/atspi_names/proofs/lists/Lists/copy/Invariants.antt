use Rattle.std.proofs.Common.{length}
use Rattle.std.specs.Ordering.{nat_cmp}
use Rattle.std.specs.Cmp.Lexicographic.{slice_cmp}
use Rattle.atspi_names.specs.Tree.{as_lists}
use Rattle.atspi_names.proofs.Copies.{IsCopied}
use Rattle.atspi_names.proofs.lists.Lists.copy.Given as goal

abbrev pub invariant-loop-name : goal.invariant-loop-name
invariant-loop-name l = IsCopied (slice_cmp nat_cmp) l.initial.rest l.rest (as_lists l.map)

abbrev pub decreases-loop-name : goal.decreases-loop-name
decreases-loop-name l = length l.rest
