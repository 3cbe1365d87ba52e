use Rattle.std.proofs.Common.{◌≡◌, ◌++◌, drop}
use Rattle.atspi_tree_edits.specs.inner.Switches.{unselecting}
use Rattle.atspi_tree_edits.proofs.children.push_unselect.Given as goal

abbrev pub invariant-loop-node : goal.invariant-loop-node
invariant-loop-node l = l.steps ++ unselecting l.tree.rows (drop l.node-index l.nodes) ≡ l.initial.steps ++ unselecting l.tree.rows l.nodes
