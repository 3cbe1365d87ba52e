use Rattle.std.proofs.Common.{length}
use Rattle.atspi_hit.specs.Places.{without_subtree}
use Rattle.atspi_hit.proofs.Dropped.{IsDropping}
use Rattle.atspi_hit.proofs.layout.Layout.drop_subtree.Given as goal

abbrev pub invariant-loop-seat : goal.invariant-loop-seat
invariant-loop-seat l = IsDropping l.walk l.self (without_subtree l.tree l.node l.fn.self)

abbrev pub decreases-loop-seat : goal.decreases-loop-seat
decreases-loop-seat l = length l.walk
