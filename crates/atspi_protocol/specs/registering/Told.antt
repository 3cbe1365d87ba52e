-- What the registry tells without being asked (AT-SPI2's registry and event interfaces).
use Rattle.std.specs.Prelude.{ℕ, min, Bool, List, [], ◌∷◌, codes, encode_utf8_all, if◌then◌else◌}
use Rattle.std.specs.List.{list_any}
use Rattle.atspi_types.specs.Kinds.{i32, u32, number, text, variant}
use Rattle.atspi_types.specs.Data.{Data, number_data, text_data, variant_data, dictionary_data, no_entries}
use Rattle.atspi_message.specs.Envelope.{Envelope}
use Rattle.atspi_protocol.specs.ends.Places.{bus, bus_path, registry, registry_path, root_path, reference}
use Rattle.atspi_protocol.specs.ends.Places.{reference_kind}
use Rattle.atspi_protocol.specs.ends.Messages.{call_to, signal_of}
use Rattle.atspi_protocol.specs.ends.Covering.{covers}
use Rattle.atspi_protocol.specs.members.Interfaces.{application, properties}

-- a count as a signed number, which stands still at the end of its type
abbrev pub count : ℕ → Data
count n = number_data i32 (min n 2147483647)

-- the calls at the start
abbrev pub hello_call : Envelope
hello_call = call_to bus bus_path bus (codes "Hello") []

abbrev pub request_call : Envelope
request_call = call_to bus bus_path bus (codes "RequestName") (text_data registry ∷ number_data u32 4 ∷ [])

abbrev pub match_call : Envelope
match_call =
    call_to bus bus_path bus (codes "AddMatch")
    (text_data (codes "type='signal',interface='org.freedesktop.DBus',member='NameOwnerChanged'") ∷ [])

-- a listener is there, or no longer
abbrev listener_signal : List ℕ → List ℕ × List ℕ → Envelope
listener_signal member pair = signal_of registry_path registry member (text_data pair.0 ∷ text_data pair.1 ∷ [])

abbrev pub registered : List ℕ × List ℕ → Envelope
registered pair = listener_signal (codes "EventListenerRegistered") pair

abbrev pub deregistered : List ℕ × List ℕ → Envelope
deregistered pair = listener_signal (codes "EventListenerDeregistered") pair

-- the call that gives an embedded root its number
abbrev pub id_call : List ℕ × List ℕ → ℕ → Envelope
id_call child n =
    call_to child.0 child.1 properties (codes "Set")
    (text_data application ∷ text_data (codes "Id") ∷ variant_data (number i32) (count n) ∷ [])

-- a child came to an index, or went from there
abbrev pub children_changed : List ℕ → ℕ → List ℕ × List ℕ → Envelope
children_changed minor index child =
    signal_of root_path (codes "org.a11y.atspi.Event.Object") (codes "ChildrenChanged")
    (text_data minor ∷ count index ∷ count 0 ∷ variant_data reference_kind (reference child.0 child.1)
    ∷ dictionary_data text variant no_entries ∷ [])

-- some pair covers news of children with this minor word
abbrev pub is_asked_for : List (List ℕ × List ℕ) → List ℕ → Bool
is_asked_for pairs minor =
    list_any (λ (p : List ℕ × List ℕ). covers (encode_utf8_all p.1) (codes "children-changed") minor) pairs

-- news of children, only while some pair covers it
abbrev news_of_child : List ℕ → List (List ℕ × List ℕ) → ℕ → List ℕ × List ℕ → List Envelope
news_of_child minor pairs index child = if is_asked_for pairs minor then children_changed minor index child ∷ [] else []

abbrev pub child_added : List (List ℕ × List ℕ) → ℕ → List ℕ × List ℕ → List Envelope
child_added pairs index child = news_of_child (codes "add") pairs index child

abbrev pub child_removed : List (List ℕ × List ℕ) → ℕ → List ℕ × List ℕ → List Envelope
child_removed pairs index child = news_of_child (codes "remove") pairs index child
