use Rattle.atspi_match.proofs.Same.{same_rule-decides}
use Rattle.atspi_match.proofs.rule.Rule.is.Goals as goal

pub returns-clause-same : goal.returns-clause-same
returns-clause-same c =
    rw (← c.self.view_is, ← c.other.view_is)
    (same_rule-decides c.self.inside.conditions.items c.other.inside.conditions.items c.eq.result c.self.invariant c.other.invariant c.eq.ensures)
