-- What an answer does, in code as in the definition.
use Rattle.std.specs.Prelude.{◌≡◌, ◌++◌, ℕ, Bool, true, false, List, [], map, Option, None, Some, encode_utf8_all}
use Rattle.atspi_types.specs.Data.{Data}
use Rattle.atspi_types.specs.DataView.{all_data}
use Rattle.atspi_base.specs.valid_names.Names.{is_bus_name}
use Rattle.atspi_message.specs.Envelope.{envelope_of}
use Rattle.atspi_message.specs.declared.message.Message.{Message}
use Rattle.atspi_names.specs.Owners.{Owners, Lists, list_of}
use Rattle.atspi_match.specs.Grammar.{IsRuleText}
use Rattle.atspi_match.specs.declared.condition.Condition.{Condition}
use Rattle.atspi_match.specs.declared.routing.member.BusMember.{BusMember}
use Rattle.atspi_match.specs.declared.routing.member.BusMember.TheVariants.{RequestName, ReleaseName, AddMatch}
use Rattle.atspi_match.specs.declared.routing.member.BusMember.TheVariants.{RemoveMatch}
use Rattle.atspi_match.specs.routing.BusState.{BusState, begins}
use Rattle.atspi_match.specs.routing.Answers as answers
use Rattle.atspi_match.specs.routing.Answers.{Answer, returns, fails, first_text}
use Rattle.atspi_bus_answers.specs.Errors.{error_text}
use Rattle.atspi_bus_answers.specs.declared.answering.Reply.{Reply}
use Rattle.atspi_bus_answers.specs.declared.answering.Reply.TheVariants.{Returns, Fails}

-- a reply
abbrev pub reply_of : Reply → answers.Reply
reply_of (Returns values) = returns (all_data values)
reply_of (Fails error) = fails (error_text error)

-- the part of a bus's state that an answer reads
abbrev pub with_parts : Owners → List (ℕ × List Condition) → BusState
with_parts owners rules = record begins { owners = owners; rules = rules }

-- owners, rules, what was told and the reply are those of the answer
pub record IsAnswer (a : Answer) (owned : Owners) (kept : List (ℕ × List Condition)) (old new : List Message)
    (given : Reply) : Type 0 where
  pub owners : owned ≡ a.owners
  pub rules : kept ≡ a.rules
  pub told : map envelope_of new ≡ map envelope_of old ++ a.told
  pub reply : reply_of given ≡ a.reply

-- a call of this member only asks
abbrev pub is_told : BusMember → Bool
is_told RequestName = false
is_told ReleaseName = false
is_told AddMatch = false
is_told RemoveMatch = false
is_told member = true

-- only bus names have owners
abbrev pub AreNamed : Lists → Type 0
AreNamed lists = (name : List ℕ) → is_bus_name name ≡ false → list_of lists name ≡ []

-- the rule that a text spells, none where it spells none
abbrev pub Spells : List ℕ → Option (List Condition) → Type 0
Spells bytes None = (rule : List Condition) → ¬ IsRuleText bytes rule
Spells bytes (Some rule) = IsRuleText bytes rule

-- the rule that a call of AddMatch or RemoveMatch speaks of
abbrev pub IsSpokenOf : BusMember → List Data → Option (List Condition) → Type 0
IsSpokenOf AddMatch args rule = Spells (encode_utf8_all (first_text args)) rule
IsSpokenOf RemoveMatch args rule = Spells (encode_utf8_all (first_text args)) rule
IsSpokenOf member args rule = Unit {0}
