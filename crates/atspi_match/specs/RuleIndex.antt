-- The rules of the connections, in the order in which they were added (D-Bus Specification, "AddMatch" and
-- "RemoveMatch").
use Rattle.std.specs.Prelude.{◌≡◌, ◌↔◌, ℕ, Bool, false, ◌&&◌, ◌==◌, not, bytes_eq, Option, None, Some, List, [], ◌∷◌}
use Rattle.std.specs.Prelude.{◌++◌, ◌≤◌, ◌<◌, length, take, Contains, HoldsAt, count_by, filter, remove, if◌then◌else◌}
use Rattle.std.specs.List.{list_any}
use Rattle.std.specs.List.Sorted.{IsStrictlyIncreasing}
use Rattle.atspi_message.specs.Envelope.{Envelope}
use Rattle.atspi_names.specs.Owners.{Owners}
use Rattle.atspi_match.specs.declared.condition.Condition.{Condition}
use Rattle.atspi_match.specs.declared.condition.Condition.TheVariants.{Kind, Sender, Interface, Member, Path}
use Rattle.atspi_match.specs.declared.condition.Condition.TheVariants.{PathNamespace, Destination, Arg, ArgPath}
use Rattle.atspi_match.specs.declared.condition.Condition.TheVariants.{Arg0Namespace, Eavesdrop}
use Rattle.atspi_match.specs.Conditions.{same_rule}
use Rattle.atspi_match.specs.Matching.{Matches}

-- whether a pair is the rule of the connection
abbrev pub is_pair : ℕ → List Condition → ℕ × List Condition → Bool
is_pair conn rule p = p.0 == conn && same_rule p.1 rule

-- how many rules a connection has
abbrev pub rules_of : ℕ → List (ℕ × List Condition) → ℕ
rules_of conn pairs = count_by (λ (p : ℕ × List Condition). p.0 == conn) pairs

-- no connection has more than 512 rules
abbrev pub IsWithinLimit : List (ℕ × List Condition) → Type 0
IsWithinLimit pairs = (conn : ℕ) → rules_of conn pairs ≤ 512

-- the pairs without the rules of the connection
abbrev pub without_rules : ℕ → List (ℕ × List Condition) → List (ℕ × List Condition)
without_rules conn pairs = filter (λ (p : ℕ × List Condition). not (p.0 == conn)) pairs

-- the pairs without the first that is the rule of the connection
abbrev pub without_first : List (ℕ × List Condition) → ℕ → List Condition → List (ℕ × List Condition)
without_first [] conn rule = []
without_first (p ∷ pairs) conn rule = if is_pair conn rule p then pairs else p ∷ without_first pairs conn rule

-- one pair went out, the first of its kind
pub record GoesOut (old new : List (ℕ × List Condition)) (pair : ℕ × List Condition) : Type 0 where
  pub front : List (ℕ × List Condition)
  pub back : List (ℕ × List Condition)
  pub was : old ≡ front ++ pair ∷ back
  pub is : new ≡ front ++ back
  pub first : ¬ Contains front pair

-- the first such pair stands at this place
pub record IsFirstAt (pairs : List (ℕ × List Condition)) (conn : ℕ) (rule : List Condition) (i : ℕ) : Type 0 where
  pub below : i < length pairs
  pub is : HoldsAt (λ p. p ≡ (conn, rule)) pairs i
  pub first : ¬ Contains (take i pairs) (conn, rule)
  pub rest : without_first pairs conn rule ≡ remove pairs i

-- there is no such pair
pub record IsNowhere (pairs : List (ℕ × List Condition)) (conn : ℕ) (rule : List Condition) : Type 0 where
  pub none : ¬ Contains pairs (conn, rule)
  pub rest : without_first pairs conn rule ≡ pairs

-- a rule of the connection matches the message
abbrev pub Receives : List (ℕ × List Condition) → Envelope → Owners → ℕ → Type 0
Receives pairs e owners conn = (rule : List Condition) × Contains pairs (conn, rule) × Matches rule e owners

-- the connections that receive a message: those with a rule that matches it, by rising number, each once
pub record AreReceivers (pairs : List (ℕ × List Condition)) (e : Envelope) (owners : Owners) (receivers : List ℕ)
    : Type 0 where
  pub rising : IsStrictlyIncreasing receivers
  pub each : (conn : ℕ) → Contains receivers conn ↔ Receives pairs e owners conn

-- whether a field is there and is this text
abbrev pub is_text : Option (List ℕ) → List ℕ → Bool
is_text None text = false
is_text (Some field) text = bytes_eq field text

-- whether a condition asks for another interface than that of the message
abbrev pub asks_another : Envelope → Condition → Bool
asks_another e (Kind t) = false
asks_another e (Sender name) = false
asks_another e (Interface name) = not (is_text e.interface name)
asks_another e (Member name) = false
asks_another e (Path path) = false
asks_another e (PathNamespace path) = false
asks_another e (Destination name) = false
asks_another e (Arg n text) = false
asks_another e (ArgPath n text) = false
asks_another e (Arg0Namespace text) = false
asks_another e (Eavesdrop b) = false

-- whether a rule asks for no interface, or for that of the message
abbrev pub is_near : Envelope → List Condition → Bool
is_near e rule = not (list_any (asks_another e) rule)

-- how many of the rules ask for no interface, or for that of the message
abbrev pub nearby : Envelope → List (ℕ × List Condition) → ℕ
nearby e pairs = count_by (λ (p : ℕ × List Condition). is_near e p.1) pairs
