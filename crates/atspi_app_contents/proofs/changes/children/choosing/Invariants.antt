use Rattle.std.proofs.Common.{◌≡◌, ◌++◌, drop}
use Rattle.atspi_app_contents.specs.changes.inner.Steps.{choosing}
use Rattle.atspi_app_contents.proofs.changes.children.choosing.Given as goal

abbrev pub invariant-loop-node : goal.invariant-loop-node
invariant-loop-node l = l.steps ++ choosing l.tree.rows l.on (drop l.node-index l.nodes) ≡ choosing l.tree.rows l.on l.nodes
