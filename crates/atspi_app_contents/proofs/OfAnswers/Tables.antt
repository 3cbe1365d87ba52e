-- The cells of a table, by the numbers of its children.
use Rattle.std.proofs.Common.{◌≡◌, ℕ, ℤ, ◌*◌, ◌/◌, ◌%◌, Bool, true, false, cond, List, [], ◌∷◌, Option, Some, None, map, length, take, drop, refl, ap, ◌∙◌}
use Rattle.std.specs.Prelude.{pos, negsuc, slice_get, filter, ◌&&◌, nat_lt}
use Rattle.std.specs.List.{list_all}
use Rattle.atspi_types.specs.Kinds.{number, i32}
use Rattle.atspi_types.specs.Data.{array_data, items_of}
use Rattle.atspi_tree_model.specs.Row.{TreeRow}
use Rattle.atspi_tree_model.specs.Edits.{numbers_to}
use Rattle.atspi_tree_model.proofs.Lookup.{each_take, each_drop}
use Rattle.atspi_protocol.specs.members.Arguments.{int}
use Rattle.atspi_tree.specs.TreeShape.{TreeShape, IsLawful, children_of}
use Rattle.atspi_protocol.specs.whole.Whole.{Faces}
use Rattle.atspi_protocol.specs.objects.Application.{Application}
use Rattle.atspi_protocol.specs.objects.Values.{count_data, reference_or_null}
use Rattle.atspi_protocol.specs.objects.Children as children
use Rattle.atspi_protocol.specs.objects.Tables as tables
use Rattle.atspi_app_values.specs.Numbers.{numbered_or_null}
use Rattle.atspi_app_contents.specs.values.Places.{place_of}
use Rattle.atspi_app_contents.specs.values.Numbers.{is_selected, is_selected_there, cell_in, node_at, row_in, column_in, is_selected_row, is_selected_row_there, rows_selected}
use Rattle.atspi_app_contents.specs.values.Seen.{seen}
use Rattle.atspi_app_contents.proofs.OfValues.Seen.{there_same, all_same, part_same, kids_seen, kids_same, count_seen}
use Rattle.atspi_app_contents.proofs.OfAnswers.Rows.{told_get}

filter_same : (p q : ℕ → Bool) → ((n : ℕ) → p n ≡ q n) → (ns : List ℕ) → filter p ns ≡ filter q ns
filter_same p q e [] = refl
filter_same p q e (n ∷ ns) = rw (e n, filter_same p q e ns) refl

module _ (t : TreeShape) (faces : Faces) (name : List ℕ) (id : ℤ) (row : TreeRow) (columns : ℕ) (wide : tables.columns_of row ≡ columns) where
  abbrev a : Application
  a = seen t faces name id

  abbrev kids : List ℕ
  kids = children_of row.shape.node t

  -- a part of the definition at the numbers
  at_kids : {B : Type 0} (f : ℕ → ℕ → B) → f (length (children.children_of a row)) (tables.columns_of row) ≡ f (length kids) columns
  at_kids f = ap (λ (k : ℕ). f k (tables.columns_of row)) (count_seen t faces name id row) ∙ ap (f (length kids)) wide

  cell_by : (r c : ℤ) → tables.cell_index a row r c ≡ cell_in (length (children.children_of a row)) (tables.columns_of row) (place_of r) (place_of c)
  cell_by (pos r) (pos c) = refl
  cell_by (pos r) (negsuc c) = refl
  cell_by (negsuc r) (pos c) = refl
  cell_by (negsuc r) (negsuc c) = refl

  pub cell_seen : (r c : ℤ) → tables.cell_index a row r c ≡ cell_in (length kids) columns (place_of r) (place_of c)
  cell_seen r c = cell_by r c ∙ at_kids (λ cells k. cell_in cells k (place_of r) (place_of c))

  -- the cell that is told
  abbrev there : Option ℕ → Option TreeRow
  there None = None
  there (Some i) = slice_get (children.children_of a row) i

  told_there : (o : Option ℕ) → reference_or_null a (there o) ≡ numbered_or_null name (node_at kids o)
  told_there None = refl
  told_there (Some i) = told_get t faces name id (children.children_of a row) i ∙ ap (λ (l : List ℕ). numbered_or_null name (slice_get l i)) (kids_seen t faces name id row)

  pub accessible_seen : (r c : ℤ) → reference_or_null a (tables.cell_at a row r c) ≡ numbered_or_null name (node_at kids (cell_in (length kids) columns (place_of r) (place_of c)))
  accessible_seen r c = told_there (tables.cell_index a row r c) ∙ ap (λ o. numbered_or_null name (node_at kids o)) (cell_seen r c)

  chosen_there : IsLawful t → (o : Option ℕ) → children.is_there_selected (there o) ≡ is_selected_there t.rows (node_at kids o)
  chosen_there lawful None = refl
  chosen_there lawful (Some i) =
      there_same t.rows (children.children_of a row) (kids_same t faces name id lawful row) i ∙ ap (λ (l : List ℕ). is_selected_there t.rows (slice_get l i)) (kids_seen t faces name id row)

  pub selected_seen : IsLawful t → (r c : ℤ) → children.is_there_selected (tables.cell_at a row r c) ≡ is_selected_there t.rows (node_at kids (cell_in (length kids) columns (place_of r) (place_of c)))
  selected_seen lawful r c = chosen_there lawful (tables.cell_index a row r c) ∙ ap (λ o. is_selected_there t.rows (node_at kids o)) (cell_seen r c)

  -- the row and the column of a cell
  row_told : (b : Bool) (i : ℕ) → cond b (count_data i) (int (negsuc 0)) ≡ tables.index_or_none (cond b (Some i) None)
  row_told true i = refl
  row_told false i = refl

  row_by : (z : ℤ) → tables.in_cells a row (λ i k. i / k) z ≡ tables.index_or_none (row_in (length (children.children_of a row)) (tables.columns_of row) (place_of z))
  row_by (pos i) = row_told (nat_lt i (tables.rows_of a row * tables.columns_of row)) (i / tables.columns_of row)
  row_by (negsuc i) = refl

  pub row_seen : (z : ℤ) → tables.in_cells a row (λ i k. i / k) z ≡ tables.index_or_none (row_in (length kids) columns (place_of z))
  row_seen z = row_by z ∙ at_kids (λ cells k. tables.index_or_none (row_in cells k (place_of z)))

  column_by : (z : ℤ) → tables.in_cells a row (λ i k. i % k) z ≡ tables.index_or_none (column_in (length (children.children_of a row)) (tables.columns_of row) (place_of z))
  column_by (pos i) = row_told (nat_lt i (tables.rows_of a row * tables.columns_of row)) (i % tables.columns_of row)
  column_by (negsuc i) = refl

  pub column_seen : (z : ℤ) → tables.in_cells a row (λ i k. i % k) z ≡ tables.index_or_none (column_in (length kids) columns (place_of z))
  column_seen z = column_by z ∙ at_kids (λ cells k. tables.index_or_none (column_in cells k (place_of z)))

  -- rows that are selected
  cells_seen : IsLawful t → (k m : ℕ) → list_all children.is_selected (take k (drop m (children.children_of a row))) ≡ list_all (is_selected t.rows) (take k (drop m kids))
  cells_seen lawful k m =
      all_same t.rows (take k (drop m (children.children_of a row))) (each_take _ k (drop m (children.children_of a row)) (each_drop _ m (children.children_of a row) (kids_same t faces name id lawful row)))
      ∙ ap (list_all (is_selected t.rows)) (part_same (children.children_of a row) k m ∙ ap (λ (l : List ℕ). take k (drop m l)) (kids_seen t faces name id row))

  row_is : IsLawful t → (r : ℕ) → tables.is_row_selected a row (pos r) ≡ is_selected_row t.rows kids columns r
  row_is lawful r =
      ap (λ b. nat_lt r (tables.rows_of a row) && b) (cells_seen lawful (tables.columns_of row) (r * tables.columns_of row))
      ∙ at_kids (λ cells k. nat_lt r (cells / k) && list_all (is_selected t.rows) (take k (drop (r * k) kids)))

  pub row_selected_seen : IsLawful t → (z : ℤ) → tables.is_row_selected a row z ≡ is_selected_row_there t.rows kids columns (place_of z)
  row_selected_seen lawful (pos r) = row_is lawful r
  row_selected_seen lawful (negsuc r) = refl

  pub rows_seen : IsLawful t → tables.selected_rows a row ≡ array_data (number i32) (items_of (map count_data (rows_selected t.rows kids columns)))
  rows_seen lawful =
      ap (λ (l : List ℕ). array_data (number i32) (items_of (map count_data l)))
      (filter_same (λ r. tables.is_row_selected a row (pos r)) (is_selected_row t.rows kids columns) (row_is lawful) (numbers_to (tables.rows_of a row))
      ∙ at_kids (λ cells k. filter (is_selected_row t.rows kids columns) (numbers_to (cells / k))))

  pub row_count_seen : tables.rows_of a row ≡ length kids / columns
  row_count_seen = at_kids (λ cells k. cells / k)
