-- The cells of a table: its children, row by row. Children that make no whole row are in none.
use Rattle.std.specs.Prelude.{ℕ, ℤ, pos, negsuc, ◌+◌, ◌*◌, ◌/◌, ◌&&◌, nat_lt, Bool, false, List, filter, length, take}
use Rattle.std.specs.Prelude.{drop, map, Option, None, Some, if◌then◌else◌, slice_get}
use Rattle.std.specs.List.{list_all}
use Rattle.atspi_types.specs.Kinds.{number, i32}
use Rattle.atspi_types.specs.Data.{Data, array_data, items_of}
use Rattle.atspi_tree_model.specs.Row.{TreeRow}
use Rattle.atspi_tree_model.specs.Edits.{numbers_to}
use Rattle.atspi_protocol.specs.members.Arguments.{int}
use Rattle.atspi_protocol.specs.objects.Application.{Application}
use Rattle.atspi_protocol.specs.objects.Values.{count_data}
use Rattle.atspi_protocol.specs.objects.Children.{children_of, is_selected}

abbrev pub columns_of : TreeRow → ℕ
columns_of row = there row.contents.columns
  where
    there : Option ℕ → ℕ
    there None = 0
    there (Some n) = n

abbrev pub rows_of : Application → TreeRow → ℕ
rows_of a row = length (children_of a row) / columns_of row

-- the index of the cell in a row and a column
abbrev pub cell_index : Application → TreeRow → ℤ → ℤ → Option ℕ
cell_index a row (pos r) (pos c) =
    if nat_lt r (rows_of a row) && nat_lt c (columns_of row) then Some (r * columns_of row + c) else None
cell_index a row _ _ = None

-- the cell there
abbrev pub cell_at : Application → TreeRow → ℤ → ℤ → Option TreeRow
cell_at a row r c = there (cell_index a row r c)
  where
    there : Option ℕ → Option TreeRow
    there None = None
    there (Some i) = slice_get (children_of a row) i

-- the index of a cell, as its row and its column are told of it
abbrev pub in_cells : Application → TreeRow → (ℕ → ℕ → ℕ) → ℤ → Data
in_cells a row f (negsuc i) = int (negsuc 0)
in_cells a row f (pos i) =
    if nat_lt i (rows_of a row * columns_of row) then count_data (f i (columns_of row)) else int (negsuc 0)

abbrev pub index_or_none : Option ℕ → Data
index_or_none None = int (negsuc 0)
index_or_none (Some i) = count_data i

-- the cells of a row
abbrev pub cells_of : Application → TreeRow → ℕ → List TreeRow
cells_of a row r = take (columns_of row) (drop (r * columns_of row) (children_of a row))

-- a row is selected where all its cells are
abbrev pub is_row_selected : Application → TreeRow → ℤ → Bool
is_row_selected a row (negsuc r) = false
is_row_selected a row (pos r) = nat_lt r (rows_of a row) && list_all is_selected (cells_of a row r)

abbrev pub selected_rows : Application → TreeRow → Data
selected_rows a row =
    array_data (number i32)
    (items_of (map count_data (filter (λ r. is_row_selected a row (pos r)) (numbers_to (rows_of a row)))))
