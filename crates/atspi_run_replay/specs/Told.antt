-- What is written of events: the text of each that is told, and the bytes of its message where they are asked for.
use Rattle.std.specs.Prelude.{ℕ, List, [], ◌∷◌, ◌++◌, cond, map}
use Rattle.std.specs.List.{flat_map}
use Rattle.atspi_trace_events.specs.declared.event.Event.{Event}
use Rattle.atspi_trace_texts.specs.declared.options.TraceOptions.{TraceOptions}
use Rattle.atspi_trace_texts.specs.EventText.{ended, event_text}
use Rattle.atspi_trace_texts.specs.TraceText.{is_brief, wire_line}
use Rattle.atspi_trace.specs.Entry.{Entry, entries_of}

-- an event, and the bytes of the message that it tells of; none where it tells of none
pub record Told : Type 0 where
  pub event : Event
  pub bytes : List ℕ

-- the entries of what was told
abbrev pub entries_told : List Told → List Entry
entries_told told = entries_of (map (λ (t : Told). t.event) told)

-- bytes as a line, where there are some
abbrev pub bytes_text : List ℕ → List ℕ
bytes_text [] = []
bytes_text (b ∷ bytes) = ended (wire_line (b ∷ bytes))

-- an event's text, and the bytes where they are asked for
abbrev pub whole_text : TraceOptions → Told → List ℕ
whole_text options t = event_text t.event ++ cond options.wire (bytes_text t.bytes) []

-- nothing of an event that the brief text does not keep
abbrev pub entry_text : TraceOptions → Told → List ℕ
entry_text options t = cond options.brief (cond (is_brief t.event) (whole_text options t) []) (whole_text options t)

abbrev pub told_text : TraceOptions → List Told → List ℕ
told_text options ts = flat_map (entry_text options) ts
