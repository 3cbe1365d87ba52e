-- A small bus for the worked cases: four connections, the last of which has not said Hello; two names; three rules;
-- three open calls.
use Rattle.std.specs.Prelude.{ℕ, List, [], ◌∷◌, Option, None, Some, codes}
use Rattle.std.specs.FinMap as finmap
use Rattle.atspi_types.specs.Data.{Data, text_data}
use Rattle.atspi_types.specs.declared.fault.Order.TheVariants.{Big}
use Rattle.atspi_message.specs.Envelope.{Envelope}
use Rattle.atspi_names.specs.Owners.{Owners, own_name}
use Rattle.atspi_match.specs.declared.condition.Condition.{Condition}
use Rattle.atspi_match.specs.declared.condition.Condition.TheVariants.{Kind, Member}
use Rattle.atspi_match.specs.declared.condition.MessageType.TheVariants.{Signal}
use Rattle.atspi_match.specs.routing.BusState.{OpenCall, BusState}
use Rattle.atspi_match.specs.declared.routing.closing.Why.{Why}
use Rattle.atspi_match.specs.routing.Queues.{Waiting, Bus, empty_bus, joins}

abbrev pub zero_ : List ℕ
zero_ = codes ":1.0"

abbrev pub one_ : List ℕ
one_ = codes ":1.1"

abbrev pub two_ : List ℕ
two_ = codes ":1.2"

abbrev pub unique_names : List (ℕ × List ℕ)
unique_names = (0, zero_) ∷ ((1, one_) ∷ ((2, two_) ∷ []))

-- connection 1 owns a.b, for which 2 waits, and c.d
abbrev pub name_lists : List (List ℕ × List (ℕ × ℕ))
name_lists =
    (zero_, (0, 0) ∷ []) ∷ ((one_, (1, 0) ∷ []) ∷ ((two_, (2, 0) ∷ [])
    ∷ ((codes "a.b", (1, 1) ∷ ((2, 0) ∷ [])) ∷ ((codes "c.d", (1, 0) ∷ []) ∷ []))))

abbrev pub owners : Owners
owners = record {
  given = 3;
  unique = finmap.from_sorted unique_names;
  lists = finmap.from_sorted name_lists;
}

abbrev waits : ℕ → ℕ → ℕ → OpenCall
waits caller serial callee = record { caller = caller; serial = serial; callee = callee }

abbrev pub signals : List Condition
signals = Kind Signal ∷ []

abbrev pub named_m : List Condition
named_m = Member (codes "M") ∷ []

abbrev pub room : BusState
room = record {
  joined = 0 ∷ (1 ∷ (2 ∷ (3 ∷ [])));
  owners = owners;
  rules = (0, signals) ∷ ((2, named_m) ∷ ((0, named_m) ∷ []));
  calls = waits 0 7 1 ∷ (waits 2 7 1 ∷ (waits 0 8 1 ∷ []));
  next = 10;
}

-- messages of connections, as they send them: with the serial 5, big-endian
abbrev pub message : ℕ → ℕ → Option (List ℕ) → Option (List ℕ) → Option (List ℕ) → List Data → Envelope
message kind flags destination interface member body = record {
  order = Big;
  kind = kind;
  flags = flags;
  serial = 5;
  path = Some (codes "/p");
  interface = interface;
  member = member;
  error = None;
  reply = None;
  destination = destination;
  sender = None;
  body = body;
}

-- a signal, a call to a name, and a reply to a name's call with a serial
abbrev pub signal_m : Envelope
signal_m = message 4 0 None (Some (codes "i.f")) (Some (codes "M")) []

abbrev pub call_to : List ℕ → Envelope
call_to name = message 1 0 (Some name) None (Some (codes "M")) []

abbrev pub bus_call : List ℕ → List Data → Envelope
bus_call member body = message 1 0 (Some own_name) (Some own_name) (Some member) body

abbrev pub reply_to : ℕ → List ℕ → ℕ → Envelope
reply_to kind name serial = record (message kind 0 (Some name) None None []) { reply = Some serial }

abbrev pub hello : Envelope
hello = bus_call (codes "Hello") []

-- a text as the one argument
abbrev pub one_text : List ℕ → List Data
one_text text = text_data text ∷ []

-- a byte waits for connection 1
abbrev pub one_waits : Waiting
one_waits = record { queues = finmap.insert finmap.empty 1 (7 ∷ []); due = [] }

-- a bus whose two connections have not said Hello: a byte waits for the first and three for the second, and these are
-- to be closed
abbrev pub due_bus : List (ℕ × Why) → Bus
due_bus due =
    record (joins (joins (empty_bus 9) 0) 1) {
      waiting =
          record {
            queues = finmap.insert (finmap.insert finmap.empty 0 (8 ∷ [])) 1 (7 ∷ (7 ∷ (7 ∷ [])));
            due = due;
          };
    }
