-- The groups in which rules stand, each rule by its place.
use Rattle.std.specs.Prelude.{◌≡◌, ◌≤◌, ℕ, true, List}
use Rattle.atspi_match.specs.declared.condition.Condition.{Condition}
use Rattle.atspi_match.specs.declared.rule_groups.RuleGroups.{RuleGroups}
use Rattle.atspi_match.specs.Groups.{IsAsked, IsOwn}
use Rattle.atspi_match.specs.Noted.{Sets, notes, askers_in}

-- of the groups of a rule, the one for whose value the fewest rules ask
pub record IsNarrowest (sets : Sets) (rule : List Condition) (group : ℕ) : Type 0 where
  pub own : IsOwn rule group
  pub fewest : (other : ℕ) → IsAsked rule other → askers_in sets group ≤ askers_in sets other

-- the rule at a place stands in one of its groups
pub record IsNoted (g : RuleGroups) (rule : List Condition) (place : ℕ) : Type 0 where
  pub group : ℕ
  pub own : IsOwn rule group
  pub noted : notes g.sets group place ≡ true

-- what stood there stands there still
abbrev pub Stays : RuleGroups → RuleGroups → Type 0
Stays old new = (rule : List Condition) (place : ℕ) → IsNoted old rule place → IsNoted new rule place
