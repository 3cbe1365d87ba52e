use Rattle.std.proofs.Common.{length}
use Rattle.std.specs.Ordering.{nat_cmp}
use Rattle.atspi_names.specs.Tree.{as_unique}
use Rattle.atspi_names.proofs.Copies.{IsCopied}
use Rattle.atspi_names.proofs.names.copy_unique.Given as goal

abbrev pub invariant-loop-conn : goal.invariant-loop-conn
invariant-loop-conn l = IsCopied nat_cmp l.initial.rest l.rest (as_unique l.copy)

abbrev pub decreases-loop-conn : goal.decreases-loop-conn
decreases-loop-conn l = length l.rest
