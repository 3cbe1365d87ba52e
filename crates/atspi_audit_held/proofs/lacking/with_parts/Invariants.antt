use Rattle.std.proofs.Common.{length}
use Rattle.std.specs.Ordering.{nat_cmp}
use Rattle.std.specs.BTreeSet.{contains}
use Rattle.atspi_tree_model.specs.Row.{Each}
use Rattle.atspi_app_items.proofs.Walked.{IsPlace}
use Rattle.atspi_audit_held.proofs.Collecting.{IsCollecting}
use Rattle.atspi_audit_held.proofs.lacking.with_parts.Given as goal

abbrev pub invariant-loop-seat : goal.invariant-loop-seat
invariant-loop-seat l = record {
  collecting : IsCollecting l.tree.rows (contains nat_cmp l.nodes) l.walk;
  there : Each (IsPlace l.tree) l.walk;
}

abbrev pub decreases-loop-seat : goal.decreases-loop-seat
decreases-loop-seat l = length l.walk
