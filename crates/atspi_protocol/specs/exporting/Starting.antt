-- How an application starts: its calls of the bus and of the registry, and what their returns bring (AT-SPI2's
-- interface files Registry and Socket; D-Bus Specification, "Message Bus Messages").
use Rattle.std.specs.Prelude.{ℕ, ◌==◌, ◌&&◌, ◌||◌, Bool, false, List, [], ◌∷◌, Option, None, Some, codes, if◌then◌else◌}
use Rattle.atspi_types.specs.Data.{Data, text_data}
use Rattle.atspi_base.specs.valid_names.Names.{is_bus_name, is_unique_name}
use Rattle.atspi_message.specs.Envelope.{Envelope}
use Rattle.atspi_protocol.specs.ends.Places.{bus, bus_path, registry, registry_path, root_path, reference}
use Rattle.atspi_protocol.specs.ends.Messages.{call_to}
use Rattle.atspi_protocol.specs.members.Interfaces.{socket}
use Rattle.atspi_protocol.specs.exporting.Exporter.{StartCall, hello, add_match, get_registered_events, embed, Phase}
use Rattle.atspi_protocol.specs.exporting.Exporter.{awaits, over, sends, Exporter, queues}
use Rattle.atspi_protocol.specs.exporting.Hearing.{pairs_in, exchanged}

-- the signals of the registry that an application asks the bus for
abbrev pub registry_signals : List ℕ
registry_signals = codes "type='signal',sender='org.a11y.atspi.Registry',interface='org.a11y.atspi.Registry'"

abbrev pub name_or_empty : Option (List ℕ) → List ℕ
name_or_empty None = []
name_or_empty (Some name) = name

-- the call itself, of an application with this name
abbrev pub start_call : List ℕ → StartCall → Envelope
start_call name hello = call_to bus bus_path bus (codes "Hello") []
start_call name add_match = call_to bus bus_path bus (codes "AddMatch") (text_data registry_signals ∷ [])
start_call name get_registered_events = call_to registry registry_path registry (codes "GetRegisteredEvents") []
start_call name embed = call_to registry root_path socket (codes "Embed") (reference name root_path ∷ [])

-- the call is queued, and its return awaited
abbrev pub asks : Exporter → StartCall → Exporter
asks s call = record (queues s (sends (start_call (name_or_empty s.name) call) ∷ [])) { phase = awaits call s.next }

-- the first call
abbrev pub starts : Exporter → Exporter
starts s = asks s hello

-- nothing more of the start is to come
abbrev pub ends_start : Exporter → Exporter
ends_start s = record s { phase = over }

-- Hello returns the unique name
abbrev pub unique_name_in : List Data → Option (List ℕ)
unique_name_in (text_data name ∷ []) = if is_unique_name name && is_bus_name name then Some name else None
unique_name_in body = None

abbrev pub greeted : Exporter → Option (List ℕ) → Exporter
greeted s None = ends_start s
greeted s (Some name) = asks (record s { name = Some name }) add_match

-- the list of all pairs replaces those that were heard
abbrev pub listened : Exporter → Option (List (List ℕ × List ℕ)) → Exporter
listened s None = ends_start s
listened s (Some listed) =
    let change = exchanged s.heard listed in
    asks (queues (record s { heard = change.heard }) change.told) embed

-- the return that was awaited
abbrev pub goes_on : Exporter → StartCall → List Data → Exporter
goes_on s hello body = greeted s (unique_name_in body)
goes_on s add_match body = asks s get_registered_events
goes_on s get_registered_events body = listened s (pairs_in body)
goes_on s embed body = ends_start s

abbrev pub is_number : Option ℕ → ℕ → Bool
is_number None n = false
is_number (Some m) n = m == n

-- which call a message answers, if one waits for it: a return or an error with the call's serial
abbrev pub awaited : Phase → Envelope → Option StartCall
awaited (awaits call serial) e = if (e.kind == 2 || e.kind == 3) && is_number e.reply serial then Some call else None
awaited phase e = None
