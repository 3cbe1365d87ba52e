use Rattle.std.proofs.Common.{◌≡◌, ◌≤◌, length, take}
use Rattle.std.specs.Prelude.{filter}
use Rattle.atspi_app_answers.specs.inner.Selected.{is_selected_in}
use Rattle.atspi_app_answers.proofs.selected.selected_among.Given as goal

abbrev pub invariant-loop-node : goal.invariant-loop-node
invariant-loop-node l = (l.count ≡ length (filter (is_selected_in l.tree) (take l.node-index l.nodes))) × (l.count ≤ l.node-index)
