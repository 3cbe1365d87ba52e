use Rattle.std.proofs.Common.{true}
use Rattle.atspi_tree_model.specs.Forest.{count}
use Rattle.atspi_tree.proofs.Descent.{Removing}
use Rattle.atspi_tree.proofs.tree.Tree.take_out.Given as goal

abbrev pub invariant-loop-leaf : goal.invariant-loop-leaf
invariant-loop-leaf l = Removing l.initial.self l.self l.node l.leaf

abbrev pub decreases-loop-leaf : goal.decreases-loop-leaf
decreases-loop-leaf l = count (λ row. true) l.self.rows
