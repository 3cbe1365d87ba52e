use Rattle.std.proofs.Common.{◌≡◌, ℕ, true, take}
use Rattle.std.specs.List.{Contains}
use Rattle.atspi_match.specs.Noted.{notes}
use Rattle.atspi_match.proofs.rule_groups.RuleGroups.places.Given as goal

abbrev pub invariant-loop-number : goal.invariant-loop-number
invariant-loop-number l = (g q : ℕ) → notes l.self.sets g q ≡ true → Contains (take l.number-index l.number-items) g → Contains l.places.items q
