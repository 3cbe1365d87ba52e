use Rattle.std.proofs.Common.{◌≡◌, take}
use Rattle.atspi_match.proofs.rule.copy_conditions.Given as goal

abbrev pub invariant-loop-condition : goal.invariant-loop-condition
invariant-loop-condition l = l.copy.items ≡ take l.condition-index l.conditions
