-- The places of rules: a rule that is taken out leaves its place empty.
use Rattle.std.specs.Prelude.{◌≡◌, ◌↔◌, ℕ, Bool, false, ◌==◌, List, [], ◌∷◌, ◌++◌, set, slice_index_or, option_to_list}
use Rattle.std.specs.Prelude.{remove, Option, None, Some, if◌then◌else◌}
use Rattle.atspi_message.specs.Envelope.{Envelope}
use Rattle.atspi_names.specs.Owners.{Owners}
use Rattle.atspi_match.specs.declared.condition.Condition.{Condition}
use Rattle.atspi_match.specs.declared.counts.Counts.{Counts}
use Rattle.atspi_match.specs.declared.rule_groups.RuleGroups.{RuleGroups}
use Rattle.atspi_match.specs.Counts.{count_in}
use Rattle.atspi_match.specs.RuleGroups.{IsNoted}
use Rattle.atspi_match.specs.RuleIndex.{rules_of, is_pair, IsWithinLimit, IsFirstAt, Receives}

abbrev pub Pair : Type 0
Pair = ℕ × List Condition

abbrev pub Slots : Type 0
Slots = List (Option Pair)

-- the rules in their places, in order
abbrev pub held_in : Slots → List Pair
held_in [] = []
held_in (slot ∷ slots) = option_to_list slot ++ held_in slots

-- what stands at a place
abbrev pub slot_at : Slots → ℕ → Option Pair
slot_at slots place = slice_index_or slots place None

-- the rules at some places, one after the other
abbrev pub chosen : Slots → List ℕ → List Pair
chosen slots [] = []
chosen slots (place ∷ places) = option_to_list (slot_at slots place) ++ chosen slots places

-- whether it is a rule of the connection
abbrev pub is_its : ℕ → Option Pair → Bool
is_its conn None = false
is_its conn (Some p) = p.0 == conn

-- a place without the rules of a connection
abbrev pub cleared : ℕ → Option Pair → Option Pair
cleared conn slot = if is_its conn slot then None else slot

-- whether it is this rule of the connection
abbrev pub is_this : ℕ → List Condition → Option Pair → Bool
is_this conn rule None = false
is_this conn rule (Some p) = is_pair conn rule p

-- each rule stands in its group
abbrev pub AreNoted : RuleGroups → Slots → Type 0
AreNoted groups slots = (place : ℕ) (pair : Pair) → slot_at slots place ≡ Some pair → IsNoted groups pair.1 place

pub record IsIndexed (slots : Slots) (groups : RuleGroups) (counts : Counts) : Type 0 where
  pub within : IsWithinLimit (held_in slots)
  pub noted : AreNoted groups slots
  pub counted : (conn : ℕ) → count_in counts.counts conn ≡ rules_of conn (held_in slots)

-- the first rule of the connection that is this one stands at a place
pub record IsFirstSlot (slots : Slots) (conn : ℕ) (rule : List Condition) (place : ℕ) : Type 0 where
  pub index : ℕ
  pub is : slot_at slots place ≡ Some (conn, rule)
  pub first : IsFirstAt (held_in slots) conn rule index
  pub emptied : held_in (set slots place None) ≡ remove (held_in slots) index

-- the connections that these rules have receive a message are those heard
pub record Hears (heard : Option ℕ) (pairs : List Pair) (e : Envelope) (owners : Owners) : Type 0 where
  pub each : (conn : ℕ) → (heard ≡ Some conn) ↔ Receives pairs e owners conn
