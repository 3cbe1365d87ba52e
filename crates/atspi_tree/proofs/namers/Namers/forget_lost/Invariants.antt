use Rattle.atspi_tree.specs.Namers.{KeepsNamed, KeepsOthers}
use Rattle.atspi_tree.proofs.namers.Namers.forget_lost.Given as goal

abbrev pub invariant-loop-relation : goal.invariant-loop-relation
invariant-loop-relation l = record {
  others : KeepsOthers l.initial.self.sets l.self.sets l.node;
  still : KeepsNamed l.initial.self.sets l.self.sets l.named l.node;
}
