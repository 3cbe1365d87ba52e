-- The messages of the bus's own (D-Bus Specification, "Message Bus Messages"). They are little-endian, with the flag
-- that no reply is expected, from the bus's own name.
use Rattle.std.specs.Prelude.{◌==◌, ℕ, ◌+◌, Bool, true, false, List, [], ◌∷◌, ◌++◌, Option, None, Some, codes}
use Rattle.std.specs.Prelude.{if◌then◌else◌}
use Rattle.atspi_types.specs.Data.{Data, text_data}
use Rattle.atspi_types.specs.declared.fault.Order.TheVariants.{Little}
use Rattle.atspi_message.specs.Envelope.{Envelope}
use Rattle.atspi_names.specs.Owners.{Owners, own_name}
use Rattle.atspi_match.specs.routing.BusState.{unique_of, name_or_empty}

abbrev pub own_path : List ℕ
own_path = codes "/org/freedesktop/DBus"

abbrev pub error_prefix : List ℕ
error_prefix = codes "org.freedesktop.DBus.Error."

-- a message of this type before it has its number
abbrev own_message : ℕ → Envelope
own_message kind = record {
  order = Little;
  kind = kind;
  flags = 1;
  serial = 0;
  path = None;
  interface = None;
  member = None;
  error = None;
  reply = None;
  destination = None;
  sender = Some own_name;
  body = [];
}

-- a signal, to one connection or to all that ask for it
abbrev pub signal : List ℕ → Option (List ℕ) → List Data → Envelope
signal member destination body =
    record (own_message 4) {
      path = Some own_path;
      interface = Some own_name;
      member = Some member;
      destination = destination;
      body = body;
    }

-- what a caller's call with this serial returns
abbrev pub return_to : Option (List ℕ) → ℕ → List Data → Envelope
return_to caller serial body = record (own_message 2) { reply = Some serial; destination = caller; body = body }

-- or the error with this name, whose text is the name again
abbrev pub error_to : Option (List ℕ) → ℕ → List ℕ → Envelope
error_to caller serial name =
    record (own_message 3)
    { error = Some (error_prefix ++ name); reply = Some serial; destination = caller; body = text_data name ∷ [] }

-- the signals about owners: NameLost and NameAcquired to a connection, NameOwnerChanged to all that ask for it
abbrev pub name_lost : Owners → List ℕ → Option ℕ → List Envelope
name_lost owners name None = []
name_lost owners name (Some conn) = signal (codes "NameLost") (unique_of owners conn) (text_data name ∷ []) ∷ []

abbrev pub name_acquired : Owners → List ℕ → Option ℕ → List Envelope
name_acquired owners name None = []
name_acquired owners name (Some conn) = signal (codes "NameAcquired") (unique_of owners conn) (text_data name ∷ []) ∷ []

abbrev pub owner_changed : List ℕ → List ℕ → List ℕ → Envelope
owner_changed name before after =
    signal (codes "NameOwnerChanged") None (text_data name ∷ (text_data before ∷ (text_data after ∷ [])))

abbrev pub same_owner : Option ℕ → Option ℕ → Bool
same_owner None None = true
same_owner (Some c) (Some d) = c == d
same_owner None (Some d) = false
same_owner (Some c) None = false

-- what is told where a name that one had is now another's: nothing where it is still the same one's
abbrev pub told_of_change : Owners → List ℕ → Option ℕ → Option ℕ → List Envelope
told_of_change owners name before after =
    if same_owner before after then []
    else name_lost owners name before
    ++ (name_acquired owners name after ++ owner_changed name (name_or_empty owners before) (name_or_empty owners after)
    ∷ [])

-- the messages with their numbers, which rise by one
abbrev pub numbered : ℕ → List Envelope → List Envelope
numbered n [] = []
numbered n (e ∷ es) = record e { serial = n } ∷ numbered (n + 1) es
