-- Nodes that are known by their numbers: which of them are selected, and which are cells of a table.
use Rattle.std.specs.Prelude.{ℕ, ◌≤◌, ◌+◌, ◌*◌, ◌/◌, ◌%◌, ◌&&◌, nat_lt, Bool, false, List, filter, length, take, drop}
use Rattle.std.specs.Prelude.{Option, None, Some, if◌then◌else◌, slice_get}
use Rattle.std.specs.List.{list_all}
use Rattle.atspi_tree_model.specs.declared.contents.FaceData.{FaceData}
use Rattle.atspi_tree_model.specs.declared.contents.FaceData.TheVariants.{Grid}
use Rattle.atspi_tree_model.specs.Forest.{Forest}
use Rattle.atspi_tree_model.specs.Row.{ShapeRow}
use Rattle.atspi_tree_model.specs.States.{selected}
use Rattle.atspi_tree_model.specs.Edits.{node_has_state, numbers_to}

-- a node is there and selected
abbrev pub is_selected : Forest ShapeRow → ℕ → Bool
is_selected f m = node_has_state f m selected

abbrev pub is_selected_there : Forest ShapeRow → Option ℕ → Bool
is_selected_there f None = false
is_selected_there f (Some m) = is_selected f m

-- those of some nodes that are
abbrev pub selected_among : Forest ShapeRow → List ℕ → List ℕ
selected_among f nodes = filter (is_selected f) nodes

-- the columns of a table that a face keeps, none where contents are of another kind
abbrev pub columns_in : Option FaceData → ℕ
columns_in (Some (Grid columns)) = columns
columns_in _ = 0

-- the index of the cell in a row and a column, of so many cells in so many columns
abbrev pub cell_in : ℕ → ℕ → Option ℕ → Option ℕ → Option ℕ
cell_in cells columns (Some r) (Some c) = if nat_lt r (cells / columns) && nat_lt c columns then Some (r * columns + c)
    else None
cell_in cells columns _ _ = None

-- the node at an index, if there is one
abbrev pub node_at : List ℕ → Option ℕ → Option ℕ
node_at nodes None = None
node_at nodes (Some i) = slice_get nodes i

-- the row and the column of a cell
abbrev pub row_in : ℕ → ℕ → Option ℕ → Option ℕ
row_in cells columns None = None
row_in cells columns (Some i) = if nat_lt i (cells / columns * columns) then Some (i / columns) else None

abbrev pub column_in : ℕ → ℕ → Option ℕ → Option ℕ
column_in cells columns None = None
column_in cells columns (Some i) = if nat_lt i (cells / columns * columns) then Some (i % columns) else None

-- a row whose cells are all selected
abbrev pub is_selected_row : Forest ShapeRow → List ℕ → ℕ → ℕ → Bool
is_selected_row f nodes columns r =
    nat_lt r (length nodes / columns) && list_all (is_selected f) (take columns (drop (r * columns) nodes))

abbrev pub is_selected_row_there : Forest ShapeRow → List ℕ → ℕ → Option ℕ → Bool
is_selected_row_there f nodes columns None = false
is_selected_row_there f nodes columns (Some r) = is_selected_row f nodes columns r

-- all of those
abbrev pub rows_selected : Forest ShapeRow → List ℕ → ℕ → List ℕ
rows_selected f nodes columns = filter (is_selected_row f nodes columns) (numbers_to (length nodes / columns))

-- an index of a node, which are few
abbrev pub IsFew : Option ℕ → Type 0
IsFew None = Unit {0}
IsFew (Some i) = i ≤ 8192
