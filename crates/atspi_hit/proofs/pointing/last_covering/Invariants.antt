use Rattle.std.proofs.Common.{◌≡◌, ◌≤◌, length, drop, None}
use Rattle.atspi_hit.specs.Places.{rect_at}
use Rattle.atspi_hit.specs.inner.Covering.{covers_node, last_of}
use Rattle.atspi_hit.proofs.pointing.last_covering.Given as goal

abbrev pub invariant-loop-left : goal.invariant-loop-left
invariant-loop-left l = record {
  within : l.left ≤ length l.nodes;
  none : last_of (covers_node l.tree (rect_at l.layout) l.point.x l.point.y) (drop l.left l.nodes) ≡ None;
}

abbrev pub decreases-loop-left : goal.decreases-loop-left
decreases-loop-left l = l.left
