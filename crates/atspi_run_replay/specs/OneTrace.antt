-- What the text of a trace tells, with the bytes of its messages: it is the text of that trace and of no other.
use Rattle.std.specs.Prelude.{◌≡◌, ℕ, true, List, [], ◌∷◌, map, Option, None, Some}
use Rattle.std.specs.List.{AllByRecursion}
use Rattle.std.specs.Io.KnownBytes.{Appends}
use Rattle.atspi_trace_events.specs.declared.event.Event.{Event}
use Rattle.atspi_trace_texts.specs.declared.options.TraceOptions.{TraceOptions}
use Rattle.atspi_trace_texts.specs.InTrace.{IsEvent}
use Rattle.atspi_trace_texts.specs.Laws.{AreSame, with_bytes}
use Rattle.atspi_trace_texts.specs.TraceText.{trace_text, wire_bytes, wire_text}
use Rattle.atspi_audit_text.specs.Told.{HasBytes}
use Rattle.atspi_run_replay.specs.Told.{Told, bytes_text, told_text}

abbrev pub events_told : List Told → List Event
events_told told = map (λ (t : Told). t.event) told

abbrev pub bytes_told : List Told → List (List ℕ)
bytes_told told = map (λ (t : Told). t.bytes) told

-- the bytes behind an event, none where there are none
abbrev pub behind : List ℕ → Option (List ℕ)
behind [] = None
behind (b ∷ bytes) = Some (b ∷ bytes)

-- an event that a trace can tell, and bytes that can stand behind it
pub record CanBeTold (t : Told) : Type 0 where
  pub event : IsEvent t.event
  pub bytes : HasBytes t.event (behind t.bytes)

-- one trace, with one list of bytes
abbrev pub TellSame : List Told → List Told → Type 0
TellSame s t = AreSame (events_told s) (events_told t) × (bytes_told s ≡ bytes_told t)

-- OF A TEXT WITH BYTES THERE IS AT MOST ONE TRACE: two that have it are one
abbrev pub TextsHaveOneTrace : Type 0
TextsHaveOneTrace =
    (s t : List Told) → AllByRecursion CanBeTold s → AllByRecursion CanBeTold t
    → told_text with_bytes s ≡ told_text with_bytes t → TellSame s t

-- so of what was written, behind what had been written before
abbrev pub WritingsHaveOneTrace : Type 0
WritingsHaveOneTrace =
    (old new : List ℕ) (s t : List Told) → AllByRecursion CanBeTold s → AllByRecursion CanBeTold t
    → Appends (Some old) (Some new) (told_text with_bytes s) → Appends (Some old) (Some new) (told_text with_bytes t)
    → TellSame s t

-- the bytes behind each event are those that the trace gives it
abbrev pub AreItsBytes : List Event → List Told → Type 0
AreItsBytes trace told = AllByRecursion (λ (t : Told). bytes_text t.bytes ≡ wire_text (wire_bytes trace t.event)) told

-- IT IS THE TEXT OF THE TRACE: without bytes always, and with them where they are its own
abbrev pub TextsAreOfTraces : Type 0
TextsAreOfTraces =
    (options : TraceOptions) (told : List Told) → (options.wire ≡ true → AreItsBytes (events_told told) told)
    → told_text options told ≡ trace_text options (events_told told)
