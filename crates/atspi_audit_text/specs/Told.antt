-- What a trace's text has of one event: its lines, and behind those of a message the message's bytes in hex.
use Rattle.std.specs.Prelude.{◌≡◌, ◌<◌, ℕ, List, ◌++◌, Option, None, Some}
use Rattle.hex.specs.Hex.{IsBytes}
use Rattle.atspi_message.specs.Envelope.{envelope_of}
use Rattle.atspi_message.specs.Bytes.{written}
use Rattle.atspi_message.specs.declared.message.Message.{Message}
use Rattle.atspi_script_lines.specs.declared.limits.TheConstants.{READER_COUNT}
use Rattle.atspi_script_lines.specs.declared.line.Party.TheVariants.{Reader}
use Rattle.atspi_trace_events.specs.declared.event.Event.{Event}
use Rattle.atspi_trace_events.specs.declared.event.Event.TheVariants.{Sent, Got}
use Rattle.atspi_trace_texts.specs.EventText.{event_text}
use Rattle.atspi_trace_texts.specs.InTrace.{IsEvent, IsWritable}
use Rattle.atspi_trace_texts.specs.TraceText.{wire_text}

-- the text of an event and of these bytes behind it
abbrev pub told_text : Event → Option (List ℕ) → List ℕ
told_text event bytes = event_text event ++ wire_text bytes

-- which bytes stand behind an event: behind a message that was sent its own, behind one that was taken some, behind any
-- other none
abbrev pub HasBytes : Event → Option (List ℕ) → Type 0
HasBytes (Sent who message) (Some bytes) = bytes ≡ written (envelope_of message)
HasBytes (Got taker sender serial) (Some bytes) = IsBytes bytes
HasBytes (Sent who message) None = ⊥
HasBytes (Got taker sender serial) None = ⊥
HasBytes event None = Unit {0}
HasBytes event (Some bytes) = ⊥

-- a text begins with an event that a trace can tell, and with the bytes behind it; this follows
pub record IsTold (event : Event) (bytes : Option (List ℕ)) (rest text : List ℕ) : Type 0 where
  pub can_be : IsEvent event
  pub has : HasBytes event bytes
  pub front : text ≡ told_text event bytes ++ rest

-- the text of a message that a reader sent, with its bytes
abbrev pub of_reader : ℕ → Message → List ℕ
of_reader reader message = told_text (Sent (Reader reader) message) (Some (written (envelope_of message)))

-- a reader that a script can name, and a message that can be written
abbrev pub IsOfReader : ℕ → Message → Type 0
IsOfReader reader message = (reader < READER_COUNT) × IsWritable (envelope_of message)
