use Rattle.std.proofs.Common.{◌≡◌, true}
use Rattle.atspi_tree_model.specs.Forest.{has}
use Rattle.atspi_tree_model.specs.RowRules.{shapes}
use Rattle.atspi_tree_model.specs.Tree.{in_subtree, is_shape}
use Rattle.atspi_tree.proofs.Seated.{depth_of}
use Rattle.atspi_run_make.proofs.nodes.is_below.Given as goal

abbrev pub invariant-loop-at : goal.invariant-loop-at
invariant-loop-at l = record {
  there : has (is_shape l.at) l.tree.rows ≡ true;
  same : in_subtree shapes l.top l.tree.rows l.node ≡ in_subtree shapes l.top l.tree.rows l.at;
}

abbrev pub decreases-loop-at : goal.decreases-loop-at
decreases-loop-at l = depth_of l.at l.tree.rows
