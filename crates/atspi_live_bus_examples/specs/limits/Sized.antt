-- Messages of a size, and a bus for them.
use Rattle.std.specs.Prelude.{ℕ, List, [], None, Some}
use Rattle.atspi_message.specs.Envelope.{Envelope}
use Rattle.atspi_types.specs.declared.fault.Order.TheVariants.{Big}
use Rattle.atspi_match.specs.routing.Queues.{Bus, empty_bus}
use Rattle.atspi_match.specs.routing.Room.{room, zero_}

-- a signal without a field, and with its sender's name
abbrev pub bare : Envelope
bare = record {
  order = Big;
  kind = 4;
  flags = 0;
  serial = 5;
  path = None;
  interface = None;
  member = None;
  error = None;
  reply = None;
  destination = None;
  sender = None;
  body = [];
}

abbrev pub signed : Envelope
signed = record bare { sender = Some zero_ }

-- a signal to a name, and with its sender's name; and a message with a path
abbrev pub to : List ℕ → Envelope
to name = record bare { destination = Some name }

abbrev pub sent_to : List ℕ → Envelope
sent_to name = record (to name) { sender = Some zero_ }

abbrev pub with_path : List ℕ → Envelope → Envelope
with_path path e = record e { path = Some path }

-- the small bus of four connections, where nothing waits
abbrev pub in_room : Bus
in_room = record (empty_bus 16777216) { state = room }
