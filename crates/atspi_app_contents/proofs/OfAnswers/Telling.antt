-- What a member tells, by the numbers of nodes and by what the faces keep.
use Rattle.std.proofs.Common.{◌≡◌, ℕ, ℤ, ◌/◌, Bool, true, false, List, [], ◌∷◌, Option, Some, None, map, length, refl, sym, ap, ◌∙◌, subst}
use Rattle.std.specs.Prelude.{pos, negsuc, ◌||◌}
use Rattle.std.specs.FinMap.{get}
use Rattle.atspi_types.specs.Kinds.{number, i32}
use Rattle.atspi_types.specs.Data.{Data, text_data, boolean_data, array_data, items_of}
use Rattle.atspi_tree_model.specs.declared.contents.FaceData.{FaceData}
use Rattle.atspi_tree_model.specs.declared.contents.FaceData.TheVariants.{Chars, Grid, Deeds}
use Rattle.atspi_tree_model.specs.Row.{ShapeRow, TextContents}
use Rattle.atspi_protocol.specs.declared.members.member.ObjectMember.{ObjectMember}
use Rattle.atspi_protocol.specs.declared.members.member.ObjectMember.TheVariants.{GetText, GetCharacterAtOffset, GetStringAtOffset, GetNSelections, GetSelection, GetSelectedChild, IsChildSelected, GetAccessibleAt, GetIndexAt, GetRowAtIndex, GetColumnAtIndex, GetSelectedRows, IsRowSelected, IsSelected, GetName, GetDescription, GetKeyBinding, GetActions}
use Rattle.atspi_protocol.specs.declared.members.property.ObjectProperty.TheVariants.{CharacterCount, CaretOffset, NSelectedChildren, NRows, NColumns, NActions}
use Rattle.atspi_protocol.specs.members.Arguments.{signed_at, unsigned_at}
use Rattle.atspi_protocol.specs.members.Granularity.{grain_of}
use Rattle.atspi_tree.specs.TreeShape.{TreeShape, IsLawful, row_of, children_of}
use Rattle.atspi_faces.specs.face.Nodes.{Nodes}
use Rattle.atspi_protocol.specs.whole.Whole.{Faces, filled, as_columns, as_actions}
use Rattle.atspi_protocol.specs.objects.Application.{Application}
use Rattle.atspi_protocol.specs.objects.Values.{count_data}
use Rattle.atspi_protocol.specs.objects.Children as children
use Rattle.atspi_protocol.specs.objects.Texts.{text_of, part_of, character_data, piece_there, piece_data, selection_data}
use Rattle.atspi_protocol.specs.objects.Tables as tables
use Rattle.atspi_protocol.specs.objects.Answers.{tells_all, name_data, actions_data}
use Rattle.atspi_app_values.specs.Numbers.{numbered_or_null}
use Rattle.atspi_app_contents.specs.values.Places.{place_of}
use Rattle.atspi_app_contents.specs.texts.Texts.{text_at}
use Rattle.atspi_app_contents.specs.values.Actions.{actions_in}
use Rattle.atspi_app_contents.specs.values.Numbers.{is_selected_there, selected_among, columns_in, cell_in, node_at, row_in, column_in, is_selected_row_there, rows_selected}
use Rattle.atspi_app_contents.specs.values.Seen.{faces_of, seen}
use Rattle.atspi_app_contents.specs.answers.Told.{Tells, IsProperty, reads_text, reads_selection, reads_table, reads_actions, reads_contents}
use Rattle.atspi_app_contents.specs.answers.inner.Told.{TellsText, TellsActions, TellsOne, TellsCells}
use Rattle.atspi_app_contents.proofs.OfValues.Seen.{found_number, kids_seen, kids_same, chosen_seen, length_same, at_same}
use Rattle.atspi_app_contents.proofs.OfAnswers.Rows.{text_seen, told_at}
use Rattle.atspi_app_contents.proofs.OfAnswers.Tables.{cell_seen, accessible_seen, selected_seen, row_seen, column_seen, row_selected_seen, rows_seen, row_count_seen}

-- one value that a member tells
one_value : (a : Application) (v w : Data) → v ≡ w → tells_all a (v ∷ []) ≡ tells_all a (w ∷ [])
one_value a v w e = ap (λ (d : Data). tells_all a (d ∷ [])) e

-- Text
module _ (texts : Nodes) (n : ℕ) (body : List Data) (vs : List Data) where
  -- the text of the row is that of the face
  text_found : (t : TreeShape) (columns actions : Nodes) (s : ShapeRow) → row_of n t ≡ Some s → text_of (filled (faces_of texts columns actions) s) ≡ text_at texts n
  text_found t columns actions s is = text_seen (faces_of texts columns actions) s ∙ ap (text_at texts) (found_number t n s is)

  pub tells_part : (from to : ℤ) → from ≡ signed_at 0 body → to ≡ signed_at 1 body → vs ≡ text_data (part_of (text_at texts n).characters from to) ∷ [] → TellsText texts n GetText body vs
  tells_part from to e f h t columns actions name id s is =
      ap (λ (x : TextContents). tells_all (seen t (faces_of texts columns actions) name id) (text_data (part_of x.characters (signed_at 0 body) (signed_at 1 body)) ∷ [])) (text_found t columns actions s is)
      ∙ ap (λ z. tells_all (seen t (faces_of texts columns actions) name id) (text_data (part_of (text_at texts n).characters z (signed_at 1 body)) ∷ [])) (sym e)
      ∙ ap (λ z. tells_all (seen t (faces_of texts columns actions) name id) (text_data (part_of (text_at texts n).characters from z) ∷ [])) (sym f)
      ∙ ap (tells_all (seen t (faces_of texts columns actions) name id)) (sym h)

  pub tells_character : (at : ℤ) → at ≡ signed_at 0 body → vs ≡ character_data (children.at at (text_at texts n).characters) ∷ [] → TellsText texts n GetCharacterAtOffset body vs
  tells_character at e h t columns actions name id s is =
      ap (λ (x : TextContents). tells_all (seen t (faces_of texts columns actions) name id) (character_data (children.at (signed_at 0 body) x.characters) ∷ [])) (text_found t columns actions s is)
      ∙ ap (λ z. tells_all (seen t (faces_of texts columns actions) name id) (character_data (children.at z (text_at texts n).characters) ∷ [])) (sym e)
      ∙ ap (tells_all (seen t (faces_of texts columns actions) name id)) (sym h)

  pub tells_piece : (place : ℤ) (granularity : ℕ) → place ≡ signed_at 0 body → granularity ≡ unsigned_at 1 body
      → vs ≡ piece_data (piece_there (grain_of granularity) (text_at texts n).characters place) → TellsText texts n GetStringAtOffset body vs
  tells_piece place granularity e f h t columns actions name id s is =
      let a = seen t (faces_of texts columns actions) name id in
      ap (λ (x : TextContents). tells_all a (piece_data (piece_there (grain_of (unsigned_at 1 body)) x.characters (signed_at 0 body)))) (text_found t columns actions s is)
      ∙ ap (λ z. tells_all a (piece_data (piece_there (grain_of (unsigned_at 1 body)) (text_at texts n).characters z))) (sym e)
      ∙ ap (λ m. tells_all a (piece_data (piece_there (grain_of m) (text_at texts n).characters place))) (sym f)
      ∙ ap (tells_all a) (sym h)

  pub tells_selection_count : vs ≡ count_data (length (text_at texts n).selections) ∷ [] → TellsText texts n GetNSelections body vs
  tells_selection_count h t columns actions name id s is =
      ap (λ (x : TextContents). tells_all (seen t (faces_of texts columns actions) name id) (count_data (length x.selections) ∷ [])) (text_found t columns actions s is)
      ∙ ap (tells_all (seen t (faces_of texts columns actions) name id)) (sym h)

  pub tells_selection : (at : ℤ) → at ≡ signed_at 0 body → vs ≡ selection_data (children.at at (text_at texts n).selections) → TellsText texts n GetSelection body vs
  tells_selection at e h t columns actions name id s is =
      ap (λ (x : TextContents). tells_all (seen t (faces_of texts columns actions) name id) (selection_data (children.at (signed_at 0 body) x.selections))) (text_found t columns actions s is)
      ∙ ap (λ z. tells_all (seen t (faces_of texts columns actions) name id) (selection_data (children.at z (text_at texts n).selections))) (sym e)
      ∙ ap (tells_all (seen t (faces_of texts columns actions) name id)) (sym h)

-- Action
pub actions_seen : (o : Option FaceData) → as_actions o ≡ actions_in o
actions_seen None = refl
actions_seen (Some (Chars text caret marks)) = refl
actions_seen (Some (Grid k)) = refl
actions_seen (Some (Deeds names)) = refl

module _ (actions : Nodes) (n : ℕ) (body : List Data) (v : Data) where
  actions_found : (t : TreeShape) (s : ShapeRow) → row_of n t ≡ Some s → as_actions (get actions s.node) ≡ actions_in (get actions n)
  actions_found t s is = actions_seen (get actions s.node) ∙ ap (λ (m : ℕ). actions_in (get actions m)) (found_number t n s is)

  pub tells_name : (at : ℤ) → at ≡ signed_at 0 body → v ≡ name_data (children.at at (actions_in (get actions n))) → TellsActions actions n GetName body v
  tells_name at e h t texts columns name id s is =
      ap (λ (l : List (List ℕ)). tells_all (seen t (faces_of texts columns actions) name id) (name_data (children.at (signed_at 0 body) l) ∷ [])) (actions_found t s is)
      ∙ ap (λ z. tells_all (seen t (faces_of texts columns actions) name id) (name_data (children.at z (actions_in (get actions n))) ∷ [])) (sym e)
      ∙ one_value (seen t (faces_of texts columns actions) name id) (name_data (children.at at (actions_in (get actions n)))) v (sym h)

  pub tells_actions : v ≡ actions_data (actions_in (get actions n)) → TellsActions actions n GetActions body v
  tells_actions h t texts columns name id s is =
      ap (λ (l : List (List ℕ)). tells_all (seen t (faces_of texts columns actions) name id) (actions_data l ∷ [])) (actions_found t s is)
      ∙ one_value (seen t (faces_of texts columns actions) name id) (actions_data (actions_in (get actions n))) v (sym h)

  pub tells_no_description : v ≡ text_data [] → TellsActions actions n GetDescription body v
  tells_no_description h t texts columns name id s is = one_value (seen t (faces_of texts columns actions) name id) (text_data []) v (sym h)

  pub tells_no_key : v ≡ text_data [] → TellsActions actions n GetKeyBinding body v
  tells_no_key h t texts columns name id s is = one_value (seen t (faces_of texts columns actions) name id) (text_data []) v (sym h)

-- Selection
at_place : (z : ℤ) (ns : List ℕ) → children.at z ns ≡ node_at ns (place_of z)
at_place (pos i) ns = refl
at_place (negsuc i) ns = refl

module _ (t : TreeShape) (lawful : IsLawful t) (name : List ℕ) (n : ℕ) (body : List Data) (v : Data) where
  pub tells_selected_child : (o : Option ℕ) → o ≡ place_of (signed_at 0 body) → v ≡ numbered_or_null name (node_at (selected_among t.rows (children_of n t)) o) → TellsOne t name n GetSelectedChild body v
  tells_selected_child o e h faces id s is =
      one_value (seen t faces name id) _ v
      (told_at t faces name id (children.selected_children (seen t faces name id) (filled faces s)) (signed_at 0 body)
      ∙ ap (λ (l : List ℕ). numbered_or_null name (children.at (signed_at 0 body) l)) (chosen_seen t faces name id lawful (filled faces s))
      ∙ ap (λ m. numbered_or_null name (children.at (signed_at 0 body) (selected_among t.rows (children_of m t)))) (found_number t n s is)
      ∙ ap (numbered_or_null name) (at_place (signed_at 0 body) (selected_among t.rows (children_of n t)))
      ∙ ap (λ q. numbered_or_null name (node_at (selected_among t.rows (children_of n t)) q)) (sym e)
      ∙ sym h)

  pub tells_child_selected : (at : ℤ) → at ≡ signed_at 0 body → v ≡ boolean_data (is_selected_there t.rows (children.at at (children_of n t))) → TellsOne t name n IsChildSelected body v
  tells_child_selected at e h faces id s is =
      one_value (seen t faces name id) _ v
      (ap boolean_data
      (at_same t.rows (children.children_of (seen t faces name id) (filled faces s)) (kids_same t faces name id lawful (filled faces s)) (signed_at 0 body)
      ∙ ap (λ (l : List ℕ). is_selected_there t.rows (children.at (signed_at 0 body) l)) (kids_seen t faces name id (filled faces s))
      ∙ ap (λ m. is_selected_there t.rows (children.at (signed_at 0 body) (children_of m t))) (found_number t n s is)
      ∙ ap (λ z. is_selected_there t.rows (children.at z (children_of n t))) (sym e))
      ∙ sym h)

-- Table
module _ (t : TreeShape) (lawful : IsLawful t) (columns : ℕ) (name : List ℕ) (n : ℕ) (body : List Data) (v : Data) where
  abbrev kids : List ℕ
  kids = children_of n t

  pub tells_accessible : (r c : Option ℕ) → r ≡ place_of (signed_at 0 body) → c ≡ place_of (signed_at 1 body) → v ≡ numbered_or_null name (node_at kids (cell_in (length kids) columns r c))
      → TellsCells t columns name n GetAccessibleAt body v
  tells_accessible r c e f h faces id s is wide =
      one_value (seen t faces name id) _ v
      (accessible_seen t faces name id (filled faces s) columns wide (signed_at 0 body) (signed_at 1 body)
      ∙ ap (λ m. numbered_or_null name (node_at (children_of m t) (cell_in (length (children_of m t)) columns (place_of (signed_at 0 body)) (place_of (signed_at 1 body))))) (found_number t n s is)
      ∙ ap (λ z. numbered_or_null name (node_at kids (cell_in (length kids) columns z (place_of (signed_at 1 body))))) (sym e)
      ∙ ap (λ z. numbered_or_null name (node_at kids (cell_in (length kids) columns r z))) (sym f)
      ∙ sym h)

  pub tells_index : (r c : Option ℕ) → r ≡ place_of (signed_at 0 body) → c ≡ place_of (signed_at 1 body) → v ≡ tables.index_or_none (cell_in (length kids) columns r c)
      → TellsCells t columns name n GetIndexAt body v
  tells_index r c e f h faces id s is wide =
      one_value (seen t faces name id) _ v
      (ap tables.index_or_none
      (cell_seen t faces name id (filled faces s) columns wide (signed_at 0 body) (signed_at 1 body)
      ∙ ap (λ m. cell_in (length (children_of m t)) columns (place_of (signed_at 0 body)) (place_of (signed_at 1 body))) (found_number t n s is)
      ∙ ap (λ z. cell_in (length kids) columns z (place_of (signed_at 1 body))) (sym e)
      ∙ ap (λ z. cell_in (length kids) columns r z) (sym f))
      ∙ sym h)

  pub tells_row : (i : Option ℕ) → i ≡ place_of (signed_at 0 body) → v ≡ tables.index_or_none (row_in (length kids) columns i) → TellsCells t columns name n GetRowAtIndex body v
  tells_row i e h faces id s is wide =
      one_value (seen t faces name id) _ v
      (row_seen t faces name id (filled faces s) columns wide (signed_at 0 body)
      ∙ ap (λ m. tables.index_or_none (row_in (length (children_of m t)) columns (place_of (signed_at 0 body)))) (found_number t n s is)
      ∙ ap (λ z. tables.index_or_none (row_in (length kids) columns z)) (sym e)
      ∙ sym h)

  pub tells_column : (i : Option ℕ) → i ≡ place_of (signed_at 0 body) → v ≡ tables.index_or_none (column_in (length kids) columns i) → TellsCells t columns name n GetColumnAtIndex body v
  tells_column i e h faces id s is wide =
      one_value (seen t faces name id) _ v
      (column_seen t faces name id (filled faces s) columns wide (signed_at 0 body)
      ∙ ap (λ m. tables.index_or_none (column_in (length (children_of m t)) columns (place_of (signed_at 0 body)))) (found_number t n s is)
      ∙ ap (λ z. tables.index_or_none (column_in (length kids) columns z)) (sym e)
      ∙ sym h)

  pub tells_rows : v ≡ array_data (number i32) (items_of (map count_data (rows_selected t.rows kids columns))) → TellsCells t columns name n GetSelectedRows body v
  tells_rows h faces id s is wide =
      one_value (seen t faces name id) _ v
      (rows_seen t faces name id (filled faces s) columns wide lawful
      ∙ ap (λ m. array_data (number i32) (items_of (map count_data (rows_selected t.rows (children_of m t) columns)))) (found_number t n s is)
      ∙ sym h)

  pub tells_row_selected : (r : Option ℕ) → r ≡ place_of (signed_at 0 body) → v ≡ boolean_data (is_selected_row_there t.rows kids columns r) → TellsCells t columns name n IsRowSelected body v
  tells_row_selected r e h faces id s is wide =
      one_value (seen t faces name id) _ v
      (ap boolean_data
      (row_selected_seen t faces name id (filled faces s) columns wide lawful (signed_at 0 body)
      ∙ ap (λ m. is_selected_row_there t.rows (children_of m t) columns (place_of (signed_at 0 body))) (found_number t n s is)
      ∙ ap (λ z. is_selected_row_there t.rows kids columns z) (sym e))
      ∙ sym h)

  pub tells_cell_selected : (r c : Option ℕ) → r ≡ place_of (signed_at 0 body) → c ≡ place_of (signed_at 1 body) → v ≡ boolean_data (is_selected_there t.rows (node_at kids (cell_in (length kids) columns r c)))
      → TellsCells t columns name n IsSelected body v
  tells_cell_selected r c e f h faces id s is wide =
      one_value (seen t faces name id) _ v
      (ap boolean_data
      (selected_seen t faces name id (filled faces s) columns wide lawful (signed_at 0 body) (signed_at 1 body)
      ∙ ap (λ m. is_selected_there t.rows (node_at (children_of m t) (cell_in (length (children_of m t)) columns (place_of (signed_at 0 body)) (place_of (signed_at 1 body))))) (found_number t n s is)
      ∙ ap (λ z. is_selected_there t.rows (node_at kids (cell_in (length kids) columns z (place_of (signed_at 1 body))))) (sym e)
      ∙ ap (λ z. is_selected_there t.rows (node_at kids (cell_in (length kids) columns r z))) (sym f))
      ∙ sym h)

-- the columns of a row, as a face has them
abbrev columns_by : Option ℕ → ℕ
columns_by None = 0
columns_by (Some k) = k

pub columns_seen : (faces : Faces) (t : TreeShape) (n : ℕ) (s : ShapeRow) → row_of n t ≡ Some s → tables.columns_of (filled faces s) ≡ columns_in (get faces.grid n)
columns_seen faces t n s is = by (get faces.grid s.node) ∙ ap (λ (m : ℕ). columns_in (get faces.grid m)) (found_number t n s is)
  where
    by : (o : Option FaceData) → columns_by (as_columns o) ≡ columns_in o
    by None = refl
    by (Some (Chars text caret marks)) = refl
    by (Some (Grid k)) = refl
    by (Some (Deeds names)) = refl

-- what is told of the cells, with the columns that a face keeps
pub told_cells : (t : TreeShape) (faces : Faces) (name : List ℕ) (n : ℕ) (member : ObjectMember) (body : List Data) (v : Data) (columns : ℕ) → columns ≡ columns_in (get faces.grid n)
    → TellsCells t columns name n member body v → Tells t faces name n member body (v ∷ [])
told_cells t faces name n asked body v columns e h id s is = h faces id s is (columns_seen faces t n s is ∙ sym e)

-- the values of a list of one
pub told_one : (t : TreeShape) (faces : Faces) (name : List ℕ) (n : ℕ) (member : ObjectMember) (body : List Data) (vs : List Data) (v : Data) → vs ≡ v ∷ [] → Tells t faces name n member body (v ∷ []) → Tells t faces name n member body vs
told_one t faces name n asked body vs v e h = subst (λ (ds : List Data). Tells t faces name n asked body ds) (sym e) h

-- a member of one of four interfaces
pub last_reads : (member : ObjectMember) → reads_contents member ≡ true → reads_text member ≡ false → reads_selection member ≡ false → reads_table member ≡ false → reads_actions member ≡ true
last_reads member all x y z = by (reads_text member) (reads_selection member) (reads_table member) x y z all
  where
    by : (b c d : Bool) → b ≡ false → c ≡ false → d ≡ false → (b || c || d || reads_actions member) ≡ true → reads_actions member ≡ true
    by false false false x y z all = all
    by true c d x y z all = cc
    by false true d x y z all = cc
    by false false true x y z all = cc

-- properties
module _ (t : TreeShape) (faces : Faces) (name : List ℕ) (n : ℕ) (v : Data) where
  pub is_character_count : v ≡ count_data (length (text_at faces.chars n).characters) → IsProperty t faces name n CharacterCount v
  is_character_count h id s is = ap (λ (x : TextContents). count_data (length x.characters)) (text_seen faces s ∙ ap (text_at faces.chars) (found_number t n s is)) ∙ sym h

  pub is_caret : v ≡ count_data (text_at faces.chars n).caret → IsProperty t faces name n CaretOffset v
  is_caret h id s is = ap (λ (x : TextContents). count_data x.caret) (text_seen faces s ∙ ap (text_at faces.chars) (found_number t n s is)) ∙ sym h

  pub is_selected_count : IsLawful t → v ≡ count_data (length (selected_among t.rows (children_of n t))) → IsProperty t faces name n NSelectedChildren v
  is_selected_count lawful h id s is =
      ap count_data
      (length_same (children.selected_children (seen t faces name id) (filled faces s))
      ∙ ap (λ (l : List ℕ). length l) (chosen_seen t faces name id lawful (filled faces s))
      ∙ ap (λ m. length (selected_among t.rows (children_of m t))) (found_number t n s is))
      ∙ sym h

  pub is_row_count : v ≡ count_data (length (children_of n t) / columns_in (get faces.grid n)) → IsProperty t faces name n NRows v
  is_row_count h id s is =
      ap count_data
      (row_count_seen t faces name id (filled faces s) (columns_in (get faces.grid n)) (columns_seen faces t n s is)
      ∙ ap (λ m. length (children_of m t) / columns_in (get faces.grid n)) (found_number t n s is))
      ∙ sym h

  pub is_column_count : v ≡ count_data (columns_in (get faces.grid n)) → IsProperty t faces name n NColumns v
  is_column_count h id s is = ap count_data (columns_seen faces t n s is) ∙ sym h

  pub is_action_count : v ≡ count_data (length (actions_in (get faces.deeds n))) → IsProperty t faces name n NActions v
  is_action_count h id s is =
      ap (λ (l : List (List ℕ)). count_data (length l)) (actions_seen (get faces.deeds s.node) ∙ ap (λ (m : ℕ). actions_in (get faces.deeds m)) (found_number t n s is)) ∙ sym h
