-- What a reader shows at the end of its run: the rows of each application that it holds.
use Rattle.std.specs.Prelude.{ℕ, List, [], ◌∷◌, ◌++◌, Option, None, Some, codes}
use Rattle.std.specs.List.{flat_map}
use Rattle.atspi_trace_events.specs.declared.shown.ShownRow.{ShownRow}
use Rattle.atspi_trace.specs.play.Playing.{view_rows}
use Rattle.atspi_trace_rows.specs.RowsText.{rows_text}
use Rattle.atspi_protocol.specs.following.ReaderState.{ReaderState}
use Rattle.atspi_protocol.specs.following.Takes.{held_names, held_view}
use Rattle.atspi_live_conversation.specs.declared.ending.Ending.{Ending}
use Rattle.atspi_live_conversation.specs.declared.ending.Ending.TheVariants as endings
use Rattle.atspi_live_reader.specs.Spoken.{spoken_in}

-- `show NAME K`, and K rows
abbrev pub show_text : List ℕ → List ShownRow → List ℕ
show_text name rows = codes "show " ++ (name ++ (32 ∷ rows_text rows))

abbrev pub show_if : List ℕ → Option (List ShownRow) → List ℕ
show_if name None = []
show_if name (Some rows) = show_text name rows

-- of one application, the rows of the view that the reader has of it
abbrev pub shown_of : ReaderState → List ℕ → List ℕ
shown_of s name = show_if name (view_rows (held_view s name))

-- and of each that is held, in the order in which they became known
abbrev pub shown_in : ReaderState → List ℕ
shown_in s = flat_map (shown_of s) (held_names s)

-- what is left to be written of a reader whose run is over: the lines of what it spoke and did not hand out, and where
-- the peer has ended then what it holds
abbrev pub last_words : Ending → ReaderState → List ℕ
last_words endings.PeerEnded s = spoken_in s.out ++ shown_in s
last_words ending s = spoken_in s.out
