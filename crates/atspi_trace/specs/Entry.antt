-- The entries of a trace as its laws see them: its events, each message apart from where it lies in memory.
use Rattle.std.specs.Prelude.{ℕ, List, map, Option}
use Rattle.atspi_tree_model.specs.declared.step.Step.{Step}
use Rattle.atspi_script_lines.specs.declared.line.Party.{Party}
use Rattle.atspi_message.specs.Envelope.{Envelope, envelope_of}
use Rattle.atspi_trace_events.specs.declared.shown.ShownRow.{ShownRow}
use Rattle.atspi_trace_events.specs.declared.event.Event.{Event}
use Rattle.atspi_trace_events.specs.declared.event.Event.TheVariants.{Start, Step as Stepped, Sent, Got, Hears, Deaf}
use Rattle.atspi_trace_events.specs.declared.event.Event.TheVariants.{Say, Show, Exit, Gone, Dropped, Busy, Quiet}

-- A start, with the root's name of an application; a step of an application's tree; a message that was sent; one that
-- was taken, with its sender and serial; a listener's pattern that an application counts from now on, or no longer; a
-- spoken line; what a reader shows of an application; an end that stopped; the news of an application's end, as a
-- reader took it; an end that was dropped, with the bytes that waited for it and those of the message that was too
-- much; that so many turns were made and something waits; that nothing waits
pub data Entry : Type 0 where
  started : Party → Option (List ℕ) → Entry
  changed : ℕ → Step → Entry
  sent : Party → Envelope → Entry
  got : Party → Party → ℕ → Entry
  heard : ℕ → List ℕ → List ℕ → Entry
  unheard : ℕ → List ℕ → List ℕ → Entry
  spoke : ℕ → ℕ → List ℕ → Entry
  showed : ℕ → ℕ → Option (List ShownRow) → Entry
  exited : Party → Entry
  gone : ℕ → ℕ → Entry
  dropped : Party → ℕ → ℕ → Entry
  busy : ℕ → Entry
  quiet : Entry

-- an event as an entry
abbrev pub entry_of : Event → Entry
entry_of (Start who name) = started who name
entry_of (Stepped app step) = changed app step
entry_of (Sent who message) = sent who (envelope_of message)
entry_of (Got taker sender serial) = got taker sender serial
entry_of (Hears app listener pattern) = heard app listener pattern
entry_of (Deaf app listener pattern) = unheard app listener pattern
entry_of (Say reader app text) = spoke reader app text
entry_of (Show reader app rows) = showed reader app rows
entry_of (Exit who) = exited who
entry_of (Gone reader app) = gone reader app
entry_of (Dropped who queued len) = dropped who queued len
entry_of (Busy turns) = busy turns
entry_of Quiet = quiet

abbrev pub entries_of : List Event → List Entry
entries_of events = map entry_of events
