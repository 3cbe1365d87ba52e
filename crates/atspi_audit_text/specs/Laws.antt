-- What holds of the text of an event with its bytes.
use Rattle.std.specs.Prelude.{◌≡◌, ℕ, List, Option}
use Rattle.atspi_trace_events.specs.declared.event.Event.{Event}
use Rattle.atspi_trace_texts.specs.Laws.{IsSame, with_bytes}
use Rattle.atspi_trace_texts.specs.TraceText.{entry_text, wire_bytes}
use Rattle.atspi_audit_text.specs.Told.{IsTold, told_text}

-- a text begins with one event at most, with the same bytes behind it and the same rest
abbrev pub EventsHaveOneReading : Type 0
EventsHaveOneReading =
    (a b : Event) (x y : Option (List ℕ)) (r s text : List ℕ) → IsTold a x r text → IsTold b y s text
    → IsSame a b × (x ≡ y) × (r ≡ s)

-- the text of a trace with bytes is that of its events, each with the bytes that it has there
abbrev pub TracesAreTold : Type 0
TracesAreTold =
    (trace : List Event) (event : Event)
    → entry_text with_bytes trace event ≡ told_text event (wire_bytes trace event)
