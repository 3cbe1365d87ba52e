use Rattle.std.proofs.Common.{◌≡◌, map, length}
use Rattle.atspi_tree_model.specs.Forest.{labels, pick}
use Rattle.atspi_tree_model.specs.Tree.{is_shape}
use Rattle.atspi_protocol.specs.whole.Whole.{without}
use Rattle.atspi_app_exported.specs.Parts.{kinds_of}
use Rattle.atspi_app_exported.proofs.Closed.{IsClosing}
use Rattle.atspi_whole_tree.proofs.closing.close_subtree.Given as goal

abbrev pub invariant-loop-seat : goal.invariant-loop-seat
invariant-loop-seat g l = record {
  texts : IsClosing l.walk (g.F.Face.nodes l.chars) (without (map (λ row. row.node) (labels (pick (is_shape l.node) l.tree.rows))) (g.F.Face.nodes l.fn.chars));
  columns : IsClosing l.walk (g.G.Face.nodes l.grid) (without (map (λ row. row.node) (labels (pick (is_shape l.node) l.tree.rows))) (g.G.Face.nodes l.fn.grid));
  actions : IsClosing l.walk (g.H.Face.nodes l.deeds) (without (map (λ row. row.node) (labels (pick (is_shape l.node) l.tree.rows))) (g.H.Face.nodes l.fn.deeds));
  kinds : kinds_of (g.F.Face.of_kind l.chars) (g.G.Face.of_kind l.grid) (g.H.Face.of_kind l.deeds) ≡ kinds_of (g.F.Face.of_kind l.fn.chars) (g.G.Face.of_kind l.fn.grid) (g.H.Face.of_kind l.fn.deeds);
}

abbrev pub decreases-loop-seat : goal.decreases-loop-seat
decreases-loop-seat g l = length l.walk
