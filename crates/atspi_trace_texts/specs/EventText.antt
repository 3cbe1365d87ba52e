-- The text of an event: its line and those of the rows that it shows.
use Rattle.std.specs.Prelude.{ℕ, List, [], ◌∷◌, ◌++◌, map, Some}
use Rattle.std.specs.List.{flat_map}
use Rattle.atspi_message.specs.Envelope.{envelope_of}
use Rattle.atspi_script.specs.MessageText.{message_text}
use Rattle.atspi_trace_events.specs.declared.event.Event.{Event}
use Rattle.atspi_trace_events.specs.declared.event.Event.TheVariants.{Sent, Show}
use Rattle.atspi_trace_texts.specs.Written.{words_text}
use Rattle.atspi_trace_events.specs.declared.shown.ShownRow.{ShownRow}
use Rattle.atspi_trace_texts.specs.EventForms.{count_text, event_form}
use Rattle.atspi_trace_texts.specs.Rows.{row_line}

-- a line ends with a line feed
abbrev pub ended : List ℕ → List ℕ
ended line = line ++ 10 ∷ []

-- the text of a message that was sent, as its sender wrote it
abbrev pub message_part : Event → List ℕ
message_part (Sent who message) = 32 ∷ message_text (envelope_of message)
message_part _ = []

-- the line that tells the event
abbrev pub event_line : Event → List ℕ
event_line event = words_text (event_form event) ++ message_part event

-- the lines of the rows that it shows, in preorder
abbrev pub row_lines : Event → List (List ℕ)
row_lines (Show reader app (Some rows)) = map row_line rows
row_lines _ = []

-- the event's text
abbrev pub event_text : Event → List ℕ
event_text event = ended (event_line event) ++ flat_map ended (row_lines event)

-- rows alone, as the text of an event of showing has them behind the names: how many there are, and a line of each
abbrev pub rows_text : List ShownRow → List ℕ
rows_text rows = ended (count_text (Some rows)) ++ flat_map ended (map row_line rows)
