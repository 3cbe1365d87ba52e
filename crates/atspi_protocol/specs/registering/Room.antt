-- A small registry for the worked cases: three pairs of two listeners, of which the first alone is told of children,
-- and two children.
use Rattle.std.specs.Prelude.{ℕ, List, [], ◌∷◌, Option, None, Some, codes}
use Rattle.atspi_types.specs.Data.{Data, text_data}
use Rattle.atspi_types.specs.declared.fault.Order.TheVariants.{Big}
use Rattle.atspi_message.specs.Envelope.{Envelope}
use Rattle.atspi_protocol.specs.ends.Places.{bus, bus_path, registry, registry_path, root_path, reference}
use Rattle.atspi_protocol.specs.members.Interfaces.{accessible, socket, properties}
use Rattle.atspi_protocol.specs.registering.RegistryState.{RegistryState}

abbrev pub two_ : List ℕ
two_ = codes ":1.2"

abbrev pub three_ : List ℕ
three_ = codes ":1.3"

abbrev pub four_ : List ℕ
four_ = codes ":1.4"

abbrev pub five_ : List ℕ
five_ = codes ":1.5"

abbrev pub six_ : List ℕ
six_ = codes ":1.6"

abbrev pub children_pair : List ℕ × List ℕ
children_pair = (two_, codes "object:children-changed")

abbrev pub text_pair : List ℕ × List ℕ
text_pair = (two_, codes "object:text-changed")

abbrev pub window_pair : List ℕ × List ℕ
window_pair = (three_, codes "window")

abbrev pub room : RegistryState
room = record {
  pairs = children_pair ∷ text_pair ∷ window_pair ∷ [];
  children = (four_, codes "/d") ∷ (five_, codes "/e") ∷ [];
  embeds = 7;
  hello = Some 1;
  own = Some (codes ":1.0");
  next = 10;
}

-- the same with no pair
abbrev pub quiet_room : RegistryState
quiet_room = record room { pairs = [] }

-- a message of another end with serial 5; a message's order of bytes does not matter
abbrev pub message : ℕ → Option (List ℕ) → List Data → Envelope
message kind sender body = record {
  order = Big;
  kind = kind;
  flags = 0;
  serial = 5;
  path = None;
  interface = None;
  member = None;
  error = None;
  reply = None;
  destination = None;
  sender = sender;
  body = body;
}

abbrev pub call_from : List ℕ → List ℕ → List ℕ → List ℕ → List Data → Envelope
call_from sender path interface member body =
    record (message 1 (Some sender) body) { path = Some path; interface = Some interface; member = Some member }

-- calls of the registry's object, and of its root
abbrev pub registry_call : List ℕ → List ℕ → List Data → Envelope
registry_call sender member body = call_from sender registry_path registry member body

abbrev pub socket_call : List ℕ → List ℕ → List Data → Envelope
socket_call sender member body = call_from sender root_path socket member body

abbrev pub root_call : List ℕ → List Data → Envelope
root_call member body = call_from six_ root_path accessible member body

abbrev pub property_call : List ℕ → List Data → Envelope
property_call member body = call_from six_ root_path properties member body

-- the bus's return to a call of the registry's, and its news of a name's owners
abbrev pub bus_return : ℕ → List Data → Envelope
bus_return serial body = record (message 2 (Some bus) body) { reply = Some serial }

abbrev pub owner_changed : List ℕ → List ℕ → List ℕ → Envelope
owner_changed name before after =
    record (message 4 (Some bus) (text_data name ∷ text_data before ∷ text_data after ∷ [])) {
      path = Some bus_path;
      interface = Some bus;
      member = Some (codes "NameOwnerChanged");
    }

-- one text, or one reference, as the arguments
abbrev pub one_text : List ℕ → List Data
one_text text = text_data text ∷ []

abbrev pub one_reference : List ℕ → List ℕ → List Data
one_reference name path = reference name path ∷ []

-- a message with its number
abbrev pub at : ℕ → Envelope → Envelope
at n e = record e { serial = n }
