use Rattle.std.proofs.Common.{take}
use Rattle.atspi_match.proofs.NotedLemmas.{IsForgotten}
use Rattle.atspi_match.proofs.rule_groups.RuleGroups.forget.Given as goal

abbrev pub invariant-loop-condition : goal.invariant-loop-condition
invariant-loop-condition l = IsForgotten l.fn.self.sets l.self.sets (take l.condition-index l.condition-items) l.place
