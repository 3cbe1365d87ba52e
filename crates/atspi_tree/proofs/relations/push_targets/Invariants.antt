use Rattle.std.proofs.Common.{◌≡◌, ◌++◌, map, take}
use Rattle.atspi_tree.proofs.relations.push_targets.Given as goal

abbrev pub invariant-loop-target : goal.invariant-loop-target
invariant-loop-target l = l.relations.items ≡ l.initial.relations.items ++ map (λ t. (l.kind, t)) (take l.target-index l.targets)
