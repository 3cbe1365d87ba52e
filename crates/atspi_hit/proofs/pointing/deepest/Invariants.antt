use Rattle.std.proofs.Common.{◌≡◌, true}
use Rattle.atspi_tree_model.specs.Forest.{has}
use Rattle.atspi_tree_model.specs.Tree.{is_shape}
use Rattle.atspi_hit.specs.Pointing.{at_point}
use Rattle.atspi_hit.specs.Places.{rect_at}
use Rattle.atspi_hit.specs.inner.Covering.{covers_node}
use Rattle.atspi_hit.proofs.Reaching.{size}
use Rattle.atspi_hit.proofs.pointing.deepest.Given as goal

abbrev pub invariant-loop-child : goal.invariant-loop-child
invariant-loop-child l = record {
  there : has (is_shape l.at) l.tree.rows ≡ true;
  covers : covers_node l.tree (rect_at l.layout) l.point.x l.point.y l.at ≡ true;
  same : at_point l.tree (rect_at l.layout) l.from l.point.x l.point.y ≡ at_point l.tree (rect_at l.layout) l.at l.point.x l.point.y;
}

abbrev pub decreases-loop-child : goal.decreases-loop-child
decreases-loop-child l = size l.tree l.at
