use Rattle.atspi_tree.proofs.Leaf.{IsForgetting}
use Rattle.atspi_tree.proofs.table.forget_targets.Given as goal

abbrev pub invariant-loop-node : goal.invariant-loop-node
invariant-loop-node l = IsForgetting l.target l.initial.cells.entries l.cells.entries l.node-iterator
