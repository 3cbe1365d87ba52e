-- What a bus does with a message, and when a connection leaves, apart from the room in its queues (D-Bus Specification,
-- "Message Bus Message Routing" and "Message Bus Messages").
use Rattle.std.specs.Prelude.{◌==◌, ◌&&◌, not, ℕ, ◌+◌, Bool, true, false, List, [], ◌∷◌, ◌++◌, map, filter, flat_map}
use Rattle.std.specs.Prelude.{length, Option, None, Some, codes, bytes_eq, if◌then◌else◌, Result, Ok, Err}
use Rattle.atspi_types.specs.Data.{text_data}
use Rattle.atspi_message.specs.Envelope.{Envelope}
use Rattle.atspi_names.specs.Owners.{Owners, list_of, own_name, after_hello, after_gone, owned_by}
use Rattle.atspi_names.specs.Queue.{owner_in}
use Rattle.atspi_match.specs.declared.condition.Condition.{Condition}
use Rattle.atspi_match.specs.RuleIndex.{without_rules}
use Rattle.atspi_match.specs.declared.routing.member.BusMember.{BusMember}
use Rattle.atspi_match.specs.routing.BusState.{OpenCall, BusState, unique_of, text_or_empty, name_or_empty}
use Rattle.atspi_match.specs.routing.BusState.{calls_without, waiting_for}
use Rattle.atspi_match.specs.routing.OwnMessages.{return_to, error_to, name_acquired, owner_changed, numbered}
use Rattle.atspi_match.specs.routing.Members.{is_text, member_of}
use Rattle.atspi_match.specs.routing.Answers.{Reply, returns, fails, Answer, only, answers}
use Rattle.atspi_match.specs.routing.Routing.{receivers, is_for_bus, expects_reply, calls_after}

-- what a bus does, one thing after another: it says a message of its own, it hands a message to a connection, it is to
-- close one
pub data Move : Type 0 where
  says : Envelope → Move
  delivers : ℕ → Envelope → Move
  closes : ℕ → Move

-- the state afterwards, and what was done
pub record BusStep : Type 0 where
  pub state : BusState
  pub moves : List Move

-- a message goes to each of its receivers
abbrev pub handed : BusState → Envelope → List Move
handed s e = map (λ c. delivers c e) (receivers s e)

-- own messages take the next numbers, and each goes to its receivers before the next is said
abbrev pub said : BusState → List Envelope → List Move
said s es = flat_map (λ e. says e ∷ handed s e) (numbered s.next es)

abbrev pub speaks : BusState → List Envelope → BusStep
speaks s es = record { state = record s { next = s.next + length es }; moves = said s es }

-- the reply to a call of the connection, none where it expects none
abbrev pub replies : BusState → ℕ → Envelope → Reply → List Envelope
replies s conn e reply = if expects_reply e then by reply ∷ [] else []
  where
    by : Reply → Envelope
    by (returns values) = return_to (unique_of s.owners conn) e.serial values
    by (fails name) = error_to (unique_of s.owners conn) e.serial name

-- an answer: what it tells comes before its reply
abbrev pub answered : BusState → ℕ → Envelope → Answer → BusStep
answered s conn e a =
    let after = record s { owners = a.owners; rules = a.rules } in
    speaks after (a.told ++ replies after conn e a.reply)

-- a call to the bus: of one of its members, or refused
abbrev pub called : BusState → ℕ → Envelope → Option (List Condition) → BusStep
called s conn e rule = by (member_of e)
  where
    by : Result BusMember (List ℕ) → BusStep
    by (Ok member) = answered s conn e (answers member s conn e.body rule)
    by (Err name) = answered s conn e (only s (fails name))

-- a message to a name that nobody owns: a call is refused, anything else is dropped
abbrev pub undeliverable : BusState → ℕ → Envelope → BusStep
undeliverable s conn e = speaks s (replies s conn e (fails (codes "ServiceUnknown")))

abbrev pub is_unowned : Option (List ℕ) → List ℕ → Bool
is_unowned (Some name) [] = true
is_unowned destination conns = false

-- the open calls after a message was handed to these connections
abbrev pub calls_after_all : List OpenCall → ℕ → Envelope → List ℕ → List OpenCall
calls_after_all calls conn e [] = calls
calls_after_all calls conn e (c ∷ cs) = calls_after_all (calls_after calls conn e c) conn e cs

-- a message of a connection that has its name, with its sender
abbrev pub passes_on : BusState → ℕ → Envelope → BusStep
passes_on s conn e =
    if is_unowned e.destination (receivers s e) then undeliverable s conn e
    else record { state = record s { calls = calls_after_all s.calls conn e (receivers s e) }; moves = handed s e }

abbrev pub takes_from_named : BusState → ℕ → Envelope → Option (List Condition) → BusStep
takes_from_named s conn e rule =
    if is_for_bus e then (if e.kind == 1 then called s conn e rule else speaks s [])
    else passes_on s conn e

-- the first message of a connection is a call of Hello, with the bus's interface or none, to the bus's name, and
-- without a body
abbrev pub is_hello : Envelope → Bool
is_hello e = e.kind
    == 1
    && (is_text e.destination own_name
    && (is_text e.member (codes "Hello") && (is_bus_interface e.interface && is_empty e.body)))
  where
    is_bus_interface : Option (List ℕ) → Bool
    is_bus_interface None = true
    is_bus_interface (Some interface) = bytes_eq interface own_name

    is_empty : {X : Type 0} → List X → Bool
    is_empty [] = true
    is_empty (x ∷ xs) = false

-- Hello: the connection gets its unique name, which is returned before it is told
abbrev pub greets : BusState → ℕ → Envelope → BusStep
greets s conn e =
    let after = record s { owners = after_hello s.owners conn } in
    let name = text_or_empty (unique_of after.owners conn) in
    speaks after
    (replies after conn e (returns (text_data name ∷ []))
    ++ (name_acquired after.owners name (Some conn) ++ owner_changed name [] name ∷ []))

-- What the bus does with a message of a connection; the rule is the one that the text of an AddMatch or a RemoveMatch
-- spells, if it does.
abbrev pub bus_takes : BusState → ℕ → Envelope → Option (List Condition) → BusStep
bus_takes s conn e rule = by (unique_of s.owners conn)
  where
    by : Option (List ℕ) → BusStep
    by (Some name) = takes_from_named s conn (record e { sender = Some name }) rule
    by None = if is_hello e then greets s conn e else record { state = s; moves = closes conn ∷ [] }

-- who is told when a connection leaves: those whose calls wait for its answer, the oldest call first; then of each
-- well-known name that it owned, by the bytes of the name, its next owner and all that ask for it; then of the end of
-- its unique name all that ask
abbrev pub no_replies : BusState → ℕ → List Envelope
no_replies s conn =
    map (λ (c : OpenCall). error_to (unique_of s.owners c.caller) c.serial (codes "NoReply")) (waiting_for conn s.calls)

abbrev pub name_passes_on : Owners → Owners → ℕ → List ℕ → List Envelope
name_passes_on before after conn name =
    let next = owner_in (list_of after.lists name) in
    name_acquired after name next ++ owner_changed name (name_or_empty before (Some conn)) (name_or_empty after next)
    ∷ []

abbrev pub names_pass_on : Owners → Owners → ℕ → List Envelope
names_pass_on before after conn = flat_map (name_passes_on before after conn) (owned_by before.lists conn)

abbrev pub farewell : BusState → Owners → ℕ → Option (List ℕ) → List Envelope
farewell s after conn None = []
farewell s after conn (Some unique) = no_replies s conn
    ++ (names_pass_on s.owners after conn ++ owner_changed unique unique [] ∷ [])

-- a connection leaves: it is out of every list, and the others are told
abbrev pub bus_leaves : BusState → ℕ → BusStep
bus_leaves s conn =
    let after = after_gone s.owners conn in
    speaks (record s {
      joined = filter (λ c. not (c == conn)) s.joined;
      owners = after;
      rules = without_rules conn s.rules;
      calls = calls_without conn s.calls;
    }) (farewell s after conn (unique_of s.owners conn))

-- a connection joins
abbrev pub bus_joins : BusState → ℕ → BusState
bus_joins s conn = record s { joined = s.joined ++ conn ∷ [] }
