use Rattle.atspi_match.specs.Noted.{SameNotes}
use Rattle.atspi_match.proofs.rule_groups.RuleGroups.count_all.Given as goal

abbrev pub invariant-loop-condition : goal.invariant-loop-condition
invariant-loop-condition l = SameNotes l.fn.self.sets l.self.sets
