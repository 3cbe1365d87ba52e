use Rattle.std.proofs.Common.{◌≡◌, drop}
use Rattle.std.specs.Prelude.{slice_get}
use Rattle.atspi_app_contents.specs.values.Numbers.{selected_among}
use Rattle.atspi_app_contents.proofs.values.selected.nth_selected.Given as goal

abbrev pub invariant-loop-node : goal.invariant-loop-node
invariant-loop-node l = slice_get (selected_among l.tree.rows l.nodes) l.place ≡ slice_get (selected_among l.tree.rows (drop l.node-index l.nodes)) l.left
