use Rattle.atspi_tree.specs.Namers.{KeepsOthers}
use Rattle.atspi_tree.proofs.namers.Namers.forget_each.Given as goal

abbrev pub invariant-loop-relation : goal.invariant-loop-relation
invariant-loop-relation l = KeepsOthers l.initial.self.sets l.self.sets l.node
