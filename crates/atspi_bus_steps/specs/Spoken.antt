-- The rule that a message speaks of.
use Rattle.std.specs.Prelude.{◌≡◌, ℕ, true, List, Option, Some, Ok}
use Rattle.atspi_message.specs.Envelope.{Envelope}
use Rattle.atspi_match.specs.declared.condition.Condition.{Condition}
use Rattle.atspi_match.specs.declared.routing.member.BusMember.{BusMember}
use Rattle.atspi_match.specs.routing.BusState.{BusState, unique_of}
use Rattle.atspi_match.specs.routing.Members.{member_of}
use Rattle.atspi_match.specs.routing.Answers.{answers}
use Rattle.atspi_match.specs.routing.Routing.{is_for_bus}
use Rattle.atspi_match.specs.routing.Steps.{BusStep, answered}
use Rattle.atspi_bus_answers.specs.Answered.{IsSpokenOf}

-- the step of a call of a member
abbrev pub answered_by : BusMember → BusState → ℕ → Envelope → Option (List Condition) → BusStep
answered_by member s conn e rule = answered s conn e (answers member s conn e.body rule)

-- the rule of a call to the bus: of AddMatch or RemoveMatch the one that its text spells
abbrev pub IsRuleOf : Envelope → Option (List Condition) → Type 0
IsRuleOf e rule = (member : BusMember) → member_of e ≡ Ok member → IsSpokenOf member e.body rule

-- the same of any message: only of a call to the bus, from a connection with its name, there is something to say
abbrev pub IsRuleTaken : BusState → ℕ → Envelope → Option (List Condition) → Type 0
IsRuleTaken s conn e rule = (name : List ℕ) → unique_of s.owners conn ≡ Some name → is_for_bus e ≡ true → e.kind ≡ 1
    → IsRuleOf e rule

-- the same of a message of a connection with its name
abbrev pub IsRuleNamed : Envelope → Option (List Condition) → Type 0
IsRuleNamed e rule = is_for_bus e ≡ true → e.kind ≡ 1 → IsRuleOf e rule
