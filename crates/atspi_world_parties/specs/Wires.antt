-- The bytes of the messages that a trace tells.
use Rattle.std.specs.Prelude.{ℕ, zero, suc, ◌==◌, ◌&&◌, ◌||◌, List, [], Option, None, Some, slice_get, if◌then◌else◌}
use Rattle.atspi_tree_model.specs.Forest.{first_of}
use Rattle.atspi_message.specs.Envelope.{Envelope, envelope_of}
use Rattle.atspi_message.specs.Bytes.{written}
use Rattle.atspi_message.specs.declared.message.Message.{Message}
use Rattle.atspi_script_lines.specs.declared.line.Party.{Party}
use Rattle.atspi_script_lines.specs.declared.line.Party.TheVariants.{Bus as The_bus}
use Rattle.atspi_trace_events.specs.declared.event.Event.{Event}
use Rattle.atspi_trace_events.specs.declared.event.Event.TheVariants.{Sent, Got}
use Rattle.atspi_world_links.specs.declared.post.Post.{Post}
use Rattle.atspi_trace.specs.Ends.{same_party}
use Rattle.atspi_world_parties.specs.Places.{post_of}

-- the message of a party with a serial, where an event tells that it was sent
abbrev pub sent_here : Party → ℕ → Event → Option Message
sent_here who serial (Sent sender message) = if same_party sender who && (message.serial == serial) then Some message
    else None
sent_here who serial event = None

abbrev pub sent_if : Party → ℕ → Option Event → Option Message
sent_if who serial None = None
sent_if who serial (Some event) = sent_here who serial event

-- the last one before a place of a trace
abbrev pub sent_before : Party → ℕ → List Event → ℕ → Option Message
sent_before who serial trace zero = None
sent_before who serial trace (suc place) =
    first_of (sent_if who serial (slice_get trace place)) (sent_before who serial trace place)

-- the unique name of a party, once the bus gave it
abbrev pub name_if : Option Post → Option (List ℕ)
name_if None = None
name_if (Some post) = post.name

-- a message as its taker got it: one that an end sent to another has the sender that the bus set
abbrev pub as_taken : List Post → Party → Party → Envelope → Envelope
as_taken posts taker sender e = if same_party taker The_bus || same_party sender The_bus then e
    else record e { sender = name_if (post_of sender posts) }

abbrev pub taken_bytes : List Post → Party → Party → Option Message → List ℕ
taken_bytes posts taker sender None = []
taken_bytes posts taker sender (Some message) = written (as_taken posts taker sender (envelope_of message))

-- THE BYTES OF THE MESSAGE THAT THE EVENT AT A PLACE TELLS, none where it tells of none
abbrev pub event_bytes : List Post → List Event → ℕ → Event → List ℕ
event_bytes posts trace place (Sent who message) = written (envelope_of message)
event_bytes posts trace place (Got taker sender serial) =
    taken_bytes posts taker sender (sent_before sender serial trace place)
event_bytes posts trace place event = []

abbrev pub wire_bytes : List Post → List Event → ℕ → Option Event → List ℕ
wire_bytes posts trace place None = []
wire_bytes posts trace place (Some event) = event_bytes posts trace place event
