-- The rows of nodes as they are shown at their places.
use Rattle.std.specs.Prelude.{ℕ, List, [], ◌∷◌, Option, None, Some}
use Rattle.std.specs.List.{flat_map}
use Rattle.std.specs.Option.{option_map}
use Rattle.atspi_tree_model.specs.Path.{path_of}
use Rattle.atspi_tree_model.specs.Row.{TreeRow}
use Rattle.atspi_tree_model.specs.View.{Told, shown}
use Rattle.atspi_tree.specs.declared.seats.Seat.{Seat}
use Rattle.atspi_trace_events.specs.declared.shown.ShownRow.{ShownRow}
use Rattle.atspi_trace.specs.Causes.{shown_row}
use Rattle.atspi_whole_tree.specs.Whole.{AppTree, row_in}

-- the row of a node at a place
abbrev pub place_row : (ℕ → Told) → Seat → TreeRow → ShownRow
place_row told seat row = shown_row (option_map path_of seat.parent, seat.index, shown (λ path. told seat.node) row)

-- the same of a node that may not be there, and of places one after another
abbrev pub row_there : (ℕ → Told) → Seat → Option TreeRow → List ShownRow
row_there told seat None = []
row_there told seat (Some row) = place_row told seat row ∷ []

abbrev pub place_rows : (ℕ → Told) → AppTree → List Seat → List ShownRow
place_rows told t seats = flat_map (λ (seat : Seat). row_there told seat (row_in seat.node t)) seats
