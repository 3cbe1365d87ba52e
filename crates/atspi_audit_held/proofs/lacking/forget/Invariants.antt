use Rattle.std.proofs.Common.{length, false, cond}
use Rattle.std.specs.Ordering.{nat_cmp}
use Rattle.std.specs.BTreeSet.{contains}
use Rattle.atspi_tree_model.specs.Forest.{has, pick}
use Rattle.atspi_tree_model.specs.Tree.{is_shape}
use Rattle.atspi_audit_held.proofs.Collecting.{IsForgetting}
use Rattle.atspi_audit_held.proofs.lacking.forget.Given as goal

abbrev pub invariant-loop-seat : goal.invariant-loop-seat
invariant-loop-seat l =
    IsForgetting (contains nat_cmp l.lacking)
    (λ n. cond (has (is_shape n) (pick (is_shape l.fn.node) l.tree.rows)) false (contains nat_cmp l.fn.lacking n)) l.walk

abbrev pub decreases-loop-seat : goal.decreases-loop-seat
decreases-loop-seat l = length l.walk
