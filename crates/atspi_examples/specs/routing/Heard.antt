-- A signal that rules are asked about, with other fields.
use Rattle.std.specs.Prelude.{ℕ, List, [], ◌∷◌, Option, Some, None, codes}
use Rattle.std.specs.FinMap as finmap
use Rattle.atspi_types.specs.Data.{Data}
use Rattle.atspi_types.specs.declared.fault.Order.TheVariants.{Little}
use Rattle.atspi_message.specs.Envelope.{Envelope}
use Rattle.atspi_names.specs.Owners.{Owners}
use Rattle.atspi_match.specs.routing.Room.{signal_m, one_, two_, owners, unique_names}

-- the signal M of the interface i.f at the path /p: of this sender, to this name, at this path, with these arguments
abbrev pub sent_by : Option (List ℕ) → Envelope
sent_by sender = record signal_m { sender = sender }

abbrev pub sent_to : Option (List ℕ) → Envelope
sent_to name = record signal_m { destination = name }

abbrev pub at : List ℕ → Envelope
at path = record signal_m { path = Some path }

abbrev pub telling : List Data → Envelope
telling body = record signal_m { body = body }

-- owners of whom nothing is right: the list of `:1.1` begins with connection 2, and that of a.b with connection 9,
-- which has no name
abbrev pub wrong_lists : List (List ℕ × List (ℕ × ℕ))
wrong_lists = (one_, (2, 0) ∷ []) ∷ ((codes "a.b", (9, 0) ∷ []) ∷ [])

abbrev pub wrong_owners : Owners
wrong_owners = record owners { lists = finmap.from_sorted wrong_lists }

-- a message of the bus's own before it has its number: little-endian, without a reply, of the bus's name
abbrev pub own_of_kind : ℕ → Envelope
own_of_kind kind = record {
  order = Little;
  kind = kind;
  flags = 1;
  serial = 0;
  path = None;
  interface = None;
  member = None;
  error = None;
  reply = None;
  destination = None;
  sender = Some (codes "org.freedesktop.DBus");
  body = [];
}
