-- What a reader shows, and how many rows.
use Rattle.std.specs.Prelude.{◌^◌, ◌-◌, ℕ, List, length, min, Option, None, Some}
use Rattle.atspi_trace_events.specs.declared.shown.ShownRow.{ShownRow}
use Rattle.atspi_protocol.specs.following.ReaderState.{ReaderState}
use Rattle.atspi_trace.specs.play.Playing.{held_by, view_rows}

-- WHAT A READER SHOWS OF AN APPLICATION BY ITS OWN DEFINITIONS: the rows of the view that it has of the one with this
-- unique name
abbrev pub shown_by : Option ReaderState → Option (List ℕ) → Option (List ShownRow)
shown_by reader name = view_rows (held_by reader name)

-- how many rows those are, as far as 64 bits count
abbrev pub row_total : Option (List ShownRow) → ℕ
row_total None = 0
row_total (Some rows) = min (length rows) (2 ^ 64 - 1)
