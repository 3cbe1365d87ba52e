-- The text of a trace: all events or those of the brief text, and the bytes of messages where they are asked for.
use Rattle.std.specs.Prelude.{ℕ, suc, ◌==◌, Bool, true, false, ◌&&◌, cond, List, [], ◌∷◌, ◌++◌, Option, None, Some}
use Rattle.std.specs.Prelude.{codes}
use Rattle.std.specs.Fmt.{decimal}
use Rattle.std.specs.List.{flat_map, filter, position_or_len}
use Rattle.hex.specs.Hex.{encode_lower}
use Rattle.atspi_message.specs.Envelope.{Envelope, envelope_of}
use Rattle.atspi_message.specs.Bytes.{written}
use Rattle.atspi_script_lines.specs.declared.line.Party.{Party}
use Rattle.atspi_script_lines.specs.declared.line.Party.TheVariants.{Bus, Registry, App, Reader}
use Rattle.atspi_trace_events.specs.declared.event.Event.{Event}
use Rattle.atspi_trace_events.specs.declared.event.Event.TheVariants.{Sent, Got, Say, Show, Dropped, Busy, Quiet}
use Rattle.atspi_trace_texts.specs.declared.options.TraceOptions.{TraceOptions}
use Rattle.atspi_trace_texts.specs.EventText.{ended, event_text}

-- the events that the brief text keeps: what a reader says and shows, who is dropped, and how turns end
abbrev pub is_brief : Event → Bool
is_brief (Say reader app text) = true
is_brief (Show reader app rows) = true
is_brief (Dropped who queued len) = true
is_brief (Busy turns) = true
is_brief Quiet = true
is_brief _ = false

-- the same party
abbrev pub is_party : Party → Party → Bool
is_party Bus Bus = true
is_party Registry Registry = true
is_party (App a) (App b) = a == b
is_party (Reader a) (Reader b) = a == b
is_party _ _ = false

-- who got its unique name by this event: the bus took its first message, which is its Hello
abbrev pub greeted : Event → List Party
greeted (Got Bus who serial) = cond (serial == 1) (who ∷ []) []
greeted _ = []

-- an end's name on the bus. The registry is `:1.0`; the others are numbered from 1 in the order in which the bus took
-- their Hello.
unfoldable pub bus_name_of : List Event → Party → List ℕ
bus_name_of trace Bus = codes "org.freedesktop.DBus"
bus_name_of trace Registry = codes ":1.0"
bus_name_of trace (App a) = codes ":1." ++ decimal (suc (position_or_len (is_party (App a)) (flat_map greeted trace)))
bus_name_of trace (Reader r) = codes ":1."
    ++ decimal (suc (position_or_len (is_party (Reader r)) (flat_map greeted trace)))

-- the message that this end sent with this serial
abbrev pub is_sent_as : Party → ℕ → Event → Bool
is_sent_as who serial (Sent sender message) = is_party who sender && (message.serial == serial)
is_sent_as who serial _ = false

unfoldable pub message_of : Party → ℕ → List Event → Option Envelope
message_of who serial [] = None
message_of who serial (Sent sender message ∷ events) =
    cond (is_sent_as who serial (Sent sender message)) (Some (envelope_of message)) (message_of who serial events)
message_of who serial (event ∷ events) = message_of who serial events

-- a message with this sender
abbrev pub sent_by : List ℕ → Envelope → Envelope
sent_by name e = record {
  order = e.order;
  kind = e.kind;
  flags = e.flags;
  serial = e.serial;
  path = e.path;
  interface = e.interface;
  member = e.member;
  error = e.error;
  reply = e.reply;
  destination = e.destination;
  sender = Some name;
  body = e.body;
}

-- a message as it was taken: by the bus as it was sent, by another with the sender that the bus set
abbrev pub delivered : Party → List ℕ → Envelope → Envelope
delivered Bus name e = e
delivered _ name e = sent_by name e

-- the bytes of a message that was taken; none where nothing of its sender has this serial
abbrev pub taken_bytes : Party → List ℕ → Option Envelope → List ℕ
taken_bytes taker name None = []
taken_bytes taker name (Some e) = written (delivered taker name e)

-- the bytes of the message of an event: as sent, or as taken
unfoldable pub wire_bytes : List Event → Event → Option (List ℕ)
wire_bytes trace (Sent who message) = Some (written (envelope_of message))
wire_bytes trace (Got taker sender serial) =
    Some (taken_bytes taker (bus_name_of trace sender) (message_of sender serial trace))
wire_bytes trace _ = None

-- bytes as a line: `= ` and two hex digits for each
abbrev pub wire_line : List ℕ → List ℕ
wire_line bytes = codes "= " ++ encode_lower bytes

abbrev pub wire_text : Option (List ℕ) → List ℕ
wire_text None = []
wire_text (Some bytes) = ended (wire_line bytes)

-- an event's text, and its bytes where they are asked for
abbrev pub entry_text : TraceOptions → List Event → Event → List ℕ
entry_text options trace event = event_text event ++ cond options.wire (wire_text (wire_bytes trace event)) []

-- the events that are told
abbrev pub told : TraceOptions → List Event → List Event
told options trace = cond options.brief (filter is_brief trace) trace

-- the text of a trace
unfoldable pub trace_text : TraceOptions → List Event → List ℕ
trace_text options trace = flat_map (entry_text options trace) (told options trace)
