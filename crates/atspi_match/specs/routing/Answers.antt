-- What the bus answers to a call of its own members (D-Bus Specification, "Message Bus Messages"), a line for each.
use Rattle.std.specs.Prelude.{◌==◌, ◌&&◌, not, ℕ, Bool, true, false, List, [], ◌∷◌, ◌++◌, map, Option, None, Some}
use Rattle.std.specs.Prelude.{codes, bytes_eq, if◌then◌else◌}
use Rattle.std.specs.List.{list_any}
use Rattle.atspi_types.specs.Kinds.{text, u32}
use Rattle.atspi_types.specs.Data.{Data, number_data, boolean_data, text_data, array_data, items_of}
use Rattle.atspi_base.specs.valid_names.Names.{is_bus_name, is_unique_name}
use Rattle.atspi_message.specs.Envelope.{Envelope}
use Rattle.atspi_names.specs.Owners.{Owners, list_of, own_name, after_request, after_release, listed}
use Rattle.atspi_names.specs.Queue.{owner_in, request_change, release_change}
use Rattle.atspi_match.specs.declared.condition.Condition.{Condition}
use Rattle.atspi_match.specs.RuleIndex.{is_pair, rules_of, without_first}
use Rattle.atspi_match.specs.declared.routing.member.BusMember.{BusMember}
use Rattle.atspi_match.specs.declared.routing.member.BusMember.TheVariants.{Hello, RequestName, ReleaseName}
use Rattle.atspi_match.specs.declared.routing.member.BusMember.TheVariants.{NameHasOwner, GetNameOwner, ListNames}
use Rattle.atspi_match.specs.declared.routing.member.BusMember.TheVariants.{ListQueuedOwners, AddMatch, RemoveMatch}
use Rattle.atspi_match.specs.declared.routing.member.BusMember.TheVariants.{GetId, Ping}
use Rattle.atspi_match.specs.routing.BusState.{BusState, name_or_empty}
use Rattle.atspi_match.specs.routing.OwnMessages.{told_of_change}

-- a call returns values, or fails with an error of this name
pub data Reply : Type 0 where
  returns : List Data → Reply
  fails : List ℕ → Reply

-- what a call does: the owners and the rules after it, what is told before the reply, and the reply
pub record Answer : Type 0 where
  pub owners : Owners
  pub rules : List (ℕ × List Condition)
  pub told : List Envelope
  pub reply : Reply

-- a reply that changes nothing
abbrev pub only : BusState → Reply → Answer
only s reply = record { owners = s.owners; rules = s.rules; told = []; reply = reply }

-- the characters of the first argument, a text, which of a name are its bytes; and the number that is the second
abbrev pub first_text : List Data → List ℕ
first_text (text_data cs ∷ ds) = cs
first_text ds = []

abbrev pub second_number : List Data → ℕ
second_number (d ∷ (number_data n x ∷ ds)) = x
second_number ds = 0

-- names of the bus, as values
abbrev pub texts : List (List ℕ) → Data
texts names = array_data text (items_of (map text_data names))

-- a name that connections may ask for: a bus name that is neither a unique name nor the bus's own
abbrev pub may_be_asked_for : List ℕ → Bool
may_be_asked_for name = is_bus_name name && (not (is_unique_name name) && not (bytes_eq name own_name))

-- RequestName and ReleaseName of such a name
abbrev pub requests : BusState → ℕ → List ℕ → ℕ → Answer
requests s conn name flags =
    let change = request_change (list_of s.owners.lists name) conn flags in
    record {
      owners = after_request s.owners conn name flags;
      rules = s.rules;
      told = told_of_change s.owners name change.before change.after;
      reply = returns (number_data u32 change.answer ∷ []);
    }

abbrev pub releases : BusState → ℕ → List ℕ → Answer
releases s conn name =
    let change = release_change (list_of s.owners.lists name) conn in
    record {
      owners = after_release s.owners conn name;
      rules = s.rules;
      told = told_of_change s.owners name change.before change.after;
      reply = returns (number_data u32 change.answer ∷ []);
    }

-- who owns a name, as GetNameOwner and NameHasOwner tell it: the bus its own name, and else a connection's unique name
abbrev pub owner_name : Owners → List ℕ → Option (List ℕ)
owner_name owners name = if bytes_eq name own_name then Some own_name else told (owner_in (list_of owners.lists name))
  where
    told : Option ℕ → Option (List ℕ)
    told None = None
    told (Some conn) = Some (name_or_empty owners (Some conn))

abbrev pub has_owner : Option (List ℕ) → Bool
has_owner None = false
has_owner (Some name) = true

abbrev pub owner_reply : Option (List ℕ) → Reply
owner_reply None = fails (codes "NameHasNoOwner")
owner_reply (Some name) = returns (text_data name ∷ [])

-- who owns a name or waits for it, the owner first
abbrev pub queued_names : Owners → List ℕ → List (List ℕ)
queued_names owners name = if bytes_eq name own_name then own_name ∷ []
    else map (λ (e : ℕ × ℕ). name_or_empty owners (Some e.0)) (list_of owners.lists name)

abbrev pub queued_reply : List (List ℕ) → Reply
queued_reply [] = fails (codes "NameHasNoOwner")
queued_reply (name ∷ names) = returns (texts (name ∷ names) ∷ [])

-- AddMatch and RemoveMatch of the rule that the text spells, if it spells one
abbrev pub adds_rule : BusState → ℕ → Option (List Condition) → Answer
adds_rule s conn None = only s (fails (codes "MatchRuleInvalid"))
adds_rule s conn (Some rule) =
    if rules_of conn s.rules == 512 then only s (fails (codes "LimitsExceeded"))
    else record (only s (returns [])) { rules = s.rules ++ (conn, rule) ∷ [] }

abbrev pub removes_rule : BusState → ℕ → Option (List Condition) → Answer
removes_rule s conn None = only s (fails (codes "MatchRuleInvalid"))
removes_rule s conn (Some rule) =
    if list_any (is_pair conn rule) s.rules
    then record (only s (returns [])) { rules = without_first s.rules conn rule }
    else only s (fails (codes "MatchRuleNotFound"))

-- the 32 digits of the bus
abbrev pub bus_id : List ℕ
bus_id = codes "61747370693200000000000000000001"

-- the line of each member: who calls, with which arguments, and the rule that the first of them spells
abbrev pub answers : BusMember → BusState → ℕ → List Data → Option (List Condition) → Answer
answers Hello s conn args rule = only s (fails (codes "Failed"))
answers RequestName s conn args rule =
    if may_be_asked_for (first_text args) then requests s conn (first_text args) (second_number args)
    else only s (fails (codes "InvalidArgs"))
answers ReleaseName s conn args rule = if may_be_asked_for (first_text args) then releases s conn (first_text args)
    else only s (fails (codes "InvalidArgs"))
answers NameHasOwner s conn args rule =
    only s (returns (boolean_data (has_owner (owner_name s.owners (first_text args))) ∷ []))
answers GetNameOwner s conn args rule = only s (owner_reply (owner_name s.owners (first_text args)))
answers ListNames s conn args rule = only s (returns (texts (listed s.owners) ∷ []))
answers ListQueuedOwners s conn args rule = only s (queued_reply (queued_names s.owners (first_text args)))
answers AddMatch s conn args rule = adds_rule s conn rule
answers RemoveMatch s conn args rule = removes_rule s conn rule
answers GetId s conn args rule = only s (returns (text_data bus_id ∷ []))
answers Ping s conn args rule = only s (returns [])
