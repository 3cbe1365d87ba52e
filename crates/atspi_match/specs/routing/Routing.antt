-- Where a message goes (D-Bus Specification, "Message Bus Message Routing" and "Match Rules").
use Rattle.std.specs.Prelude.{◌==◌, ◌&&◌, ◌||◌, not, ℕ, Bool, true, false, List, [], ◌∷◌, ◌++◌, length, take, filter}
use Rattle.std.specs.Prelude.{Option, None, Some, bytes_eq, bit_and, encode_utf8_all, if◌then◌else◌}
use Rattle.std.specs.List.{list_any, list_all}
use Rattle.atspi_base.specs.valid_names.Names.{is_unique_name}
use Rattle.atspi_message.specs.Envelope.{Envelope}
use Rattle.atspi_names.specs.Queue.{owner_in}
use Rattle.atspi_names.specs.Owners.{Owners, list_of, own_name}
use Rattle.atspi_match.specs.declared.condition.Condition.{Condition}
use Rattle.atspi_match.specs.declared.condition.Condition.TheVariants.{Kind, Sender, Interface, Member, Path}
use Rattle.atspi_match.specs.declared.condition.Condition.TheVariants.{PathNamespace, Destination, Arg, ArgPath}
use Rattle.atspi_match.specs.declared.condition.Condition.TheVariants.{Arg0Namespace, Eavesdrop}
use Rattle.atspi_match.specs.Matching.{type_number, text_argument, text_or_path_argument}
use Rattle.atspi_match.specs.routing.BusState.{OpenCall, BusState, unique_of}

-- the tests of a match rule's conditions: each decides what `Holds` says of it

abbrev pub is_same : Option (List ℕ) → List ℕ → Bool
is_same None text = false
is_same (Some field) text = bytes_eq field text

abbrev pub passes : (List ℕ → Bool) → Option (List ℕ) → Bool
passes test None = false
passes test (Some field) = test field

abbrev pub begins_with : List ℕ → List ℕ → Bool
begins_with text front = bytes_eq (take (length front) text) front

abbrev pub is_owned_by : Owners → List ℕ → Option ℕ → Bool
is_owned_by owners unique None = false
is_owned_by owners unique (Some conn) = is_same (unique_of owners conn) unique

abbrev pub goes_by : Owners → List ℕ → List ℕ → Bool
goes_by owners name field = bytes_eq field name
    || (not (is_unique_name name) && is_owned_by owners field (owner_in (list_of owners.lists name)))

abbrev pub is_within : ℕ → List ℕ → List ℕ → Bool
is_within separator namespace text = bytes_eq text namespace || begins_with text (namespace ++ separator ∷ [])

abbrev pub is_path_within : List ℕ → List ℕ → Bool
is_path_within namespace path = bytes_eq namespace (47 ∷ []) || is_within 47 namespace path

abbrev pub ends_in_slash : List ℕ → Bool
ends_in_slash [] = false
ends_in_slash (b ∷ []) = b == 47
ends_in_slash (b ∷ (c ∷ bs)) = ends_in_slash (c ∷ bs)

abbrev pub is_same_branch : List ℕ → List ℕ → Bool
is_same_branch a b = bytes_eq a b || ((ends_in_slash a && begins_with b a) || (ends_in_slash b && begins_with a b))

abbrev pub holds : Envelope → Owners → Condition → Bool
holds e owners (Kind t) = e.kind == type_number t
holds e owners (Sender name) = passes (goes_by owners name) e.sender
holds e owners (Interface name) = is_same e.interface name
holds e owners (Member name) = is_same e.member name
holds e owners (Path path) = is_same e.path path
holds e owners (PathNamespace path) = passes (is_path_within path) e.path
holds e owners (Destination name) = passes (goes_by owners name) e.destination
holds e owners (Arg n text) = is_same (text_argument e n) (encode_utf8_all text)
holds e owners (ArgPath n text) = passes (is_same_branch (encode_utf8_all text)) (text_or_path_argument e n)
holds e owners (Arg0Namespace text) = passes (is_within 46 (encode_utf8_all text)) (text_argument e 0)
holds e owners (Eavesdrop b) = true

abbrev pub matches : Envelope → Owners → List Condition → Bool
matches e owners rule = list_all (holds e owners) rule

-- a rule of the connection matches the message
abbrev pub asks_for : BusState → Envelope → ℕ → Bool
asks_for s e conn = list_any (λ (p : ℕ × List Condition). p.0 == conn && matches e s.owners p.1) s.rules

-- the one connection that owns a name, if one does
abbrev pub one_or_none : Option ℕ → List ℕ
one_or_none None = []
one_or_none (Some conn) = conn ∷ []

abbrev pub owners_of : BusState → List ℕ → List ℕ
owners_of s name = one_or_none (owner_in (list_of s.owners.lists name))

-- A message with a destination goes to the owner of that name. A signal without one goes once to each connection that
-- asks for it, in order of joining, its sender too. Any other message without a destination goes to nobody.
abbrev pub receivers : BusState → Envelope → List ℕ
receivers s e = by e.destination
  where
    by : Option (List ℕ) → List ℕ
    by (Some name) = owners_of s name
    by None = if e.kind == 4 then filter (asks_for s e) s.joined else []

-- a message to the bus's own name, or a call without a destination, is for the bus itself
abbrev pub is_for_bus : Envelope → Bool
is_for_bus e = by e.destination
  where
    by : Option (List ℕ) → Bool
    by (Some name) = bytes_eq name own_name
    by None = e.kind == 1

-- a call whose caller waits for the reply
abbrev pub expects_reply : Envelope → Bool
expects_reply e = e.kind == 1 && (bit_and e.flags 1 == 0)

-- a return or an error
abbrev pub is_reply : Envelope → Bool
is_reply e = e.kind == 2 || e.kind == 3

-- the open calls behind one that this connection made to another
abbrev pub with_call : List OpenCall → ℕ → ℕ → ℕ → List OpenCall
with_call calls caller serial callee = calls ++ record { caller = caller; serial = serial; callee = callee } ∷ []

-- the open calls without the oldest that a reply of the callee to the caller answers, and no other
abbrev pub without_answered : List OpenCall → ℕ → ℕ → ℕ → List OpenCall
without_answered [] caller serial callee = []
without_answered (c ∷ calls) caller serial callee =
    if c.caller == caller && (c.serial == serial && c.callee == callee) then calls
    else c ∷ without_answered calls caller serial callee

-- the open calls after a message of a connection went to a receiver
abbrev pub calls_after : List OpenCall → ℕ → Envelope → ℕ → List OpenCall
calls_after calls conn e receiver =
    if expects_reply e then with_call calls conn e.serial receiver
    else if is_reply e then answered e.reply
    else calls
  where
    answered : Option ℕ → List OpenCall
    answered None = calls
    answered (Some serial) = without_answered calls receiver serial conn
