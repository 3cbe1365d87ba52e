use Rattle.std.proofs.Common.{take}
use Rattle.atspi_match.proofs.NarrowLemmas.{IsBest}
use Rattle.atspi_match.proofs.rule_groups.RuleGroups.narrowest.Given as goal

abbrev pub invariant-loop-condition : goal.invariant-loop-condition
invariant-loop-condition l = IsBest l.self.sets (take l.condition-index l.conditions) l.narrowest l.fewest
