use Rattle.std.proofs.Common.{take}
use Rattle.atspi_tree.proofs.Notes.{IsNoting}
use Rattle.atspi_tree.proofs.namers.Namers.note_each.Given as goal

abbrev pub invariant-loop-target : goal.invariant-loop-target
invariant-loop-target l = IsNoting l.initial.self.sets l.self.sets l.node (take l.target-index l.targets)
