-- What holds of the texts of traces.
use Rattle.std.specs.Prelude.{◌≡◌, ◌<◌, ◌^◌, ℕ, zero, suc, true, false, List, [], ◌∷◌, ◌++◌, Some, codes}
use Rattle.std.specs.Fmt.{decimal}
use Rattle.std.specs.List.{AllByRecursion}
use Rattle.atspi_message.specs.Envelope.{envelope_of}
use Rattle.atspi_tree_model.specs.Path.{path_of}
use Rattle.atspi_script_lines.specs.Words.{literal, app_name, reader_name}
use Rattle.atspi_trace_events.specs.declared.event.Event.{Event}
use Rattle.atspi_trace_events.specs.declared.event.Event.TheVariants.{Sent, Show}
use Rattle.atspi_trace_texts.specs.declared.options.TraceOptions.{TraceOptions}
use Rattle.atspi_trace_events.specs.declared.shown.ShownRow.{ShownRow}
use Rattle.atspi_trace_texts.specs.EventText.{event_text, rows_text}
use Rattle.atspi_trace_texts.specs.InTrace.{IsEvent}
use Rattle.atspi_trace_texts.specs.Rows.{node_text}
use Rattle.atspi_trace_texts.specs.TraceText.{trace_text}
use Rattle.atspi_trace_texts.specs.Written.{words_text}

-- one event; of messages it is asked that they are one message, wherever they lie in memory
abbrev pub IsSame : Event → Event → Type 0
IsSame (Sent who message) (Sent other more) = (who ≡ other) × (envelope_of message ≡ envelope_of more)
IsSame a b = a ≡ b

-- one trace
abbrev pub AreSame : List Event → List Event → Type 0
AreSame [] [] = Unit {0}
AreSame (a ∷ s) (b ∷ t) = IsSame a b × AreSame s t
AreSame _ _ = ⊥

-- all events, with the bytes of their messages
abbrev pub with_bytes : TraceOptions
with_bytes = record { brief = false; wire = true }

-- the text with bytes tells the trace
abbrev pub TextTellsTrace : Type 0
TextTellsTrace =
    (s t : List Event) → AllByRecursion IsEvent s → AllByRecursion IsEvent t
    → trace_text with_bytes s ≡ trace_text with_bytes t → AreSame s t

-- how a node of the application is told
abbrev pub node_word : ℕ → List ℕ
node_word zero = codes "root"
node_word (suc n) = decimal (suc n)

-- the path of each node is told by the node's number, that of the root as `root`
abbrev pub NodesAreTold : Type 0
NodesAreTold = (n : ℕ) → n < 2 ^ 32 → node_text (path_of n) ≡ node_word n

-- the text of an event of showing is `show`, the two names, and then the text of the rows alone
abbrev pub EventsShowRows : Type 0
EventsShowRows =
    (reader app : ℕ) (rows : List ShownRow)
    → event_text (Show reader app (Some rows))
    ≡ words_text (literal (codes "show") ∷ reader_name reader ∷ app_name app ∷ []) ++ (32 ∷ rows_text rows)
