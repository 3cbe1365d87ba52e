-- What faces keep of the nodes of a lawful whole tree.
use Rattle.std.proofs.Common.{◌≡◌, ℕ, ◌≤◌, true, [], Option, Some, None, length, refl, ap, ◌∙◌, subst, arith}
use Rattle.std.specs.FinMap.{get}
use Rattle.std.specs.Option.{option_map, option_map_or}
use Rattle.atspi_tree_model.specs.declared.contents.FaceData.{FaceData}
use Rattle.atspi_tree_model.specs.declared.contents.FaceData.TheVariants.{Chars, Grid, Deeds}
use Rattle.atspi_tree_model.specs.declared.contents.FaceKind.{FaceKind}
use Rattle.atspi_tree_model.specs.declared.contents.FaceKind.TheVariants.{Chars as chars_kind, Grid as grid_kind, Deeds as deeds_kind}
use Rattle.atspi_tree_model.specs.Row.{ShapeRow, HoldsIfThere, IsText, IsContents}
use Rattle.atspi_tree_model.specs.RowRules.{rows}
use Rattle.atspi_tree_model.specs.Forest.{find, has}
use Rattle.atspi_tree_model.specs.Tree.{is_shape, is_node, IsTree}
use Rattle.atspi_tree_model.specs.Edits.{known_text}
use Rattle.atspi_tree_model.proofs.Found.{count-has, find-has}
use Rattle.atspi_tree_model.proofs.Lookup.{each-find, find-relabel}
use Rattle.atspi_tree.specs.TreeShape.{TreeShape}
use Rattle.atspi_protocol.specs.whole.Whole.{Faces, whole, filled, contents_of, as_text, as_columns, as_actions}
use Rattle.atspi_app_contents.specs.texts.Texts.{KeepsText}
use Rattle.atspi_app_contents.specs.values.Actions.{actions_in}
use Rattle.atspi_app_contents.specs.values.Numbers.{columns_in}
use Rattle.atspi_app_contents.specs.values.Seen.{KeepsContents}
use Rattle.atspi_app_contents.proofs.OfValues.Seen.{found_number}

-- of a node that is there, within its limits
pub keeps : (t : TreeShape) (faces : Faces) (k n : ℕ) (texts columns actions : FaceKind) → IsTree rows (whole t.rows faces) k → has (is_shape n) t.rows ≡ true
    → texts ≡ chars_kind → columns ≡ grid_kind → actions ≡ deeds_kind → KeepsContents texts columns actions faces n
keeps t faces k n texts columns actions tree there et ec ea =
    let x = find-has (is_shape n) t.rows (count-has (is_shape n) t.rows there) in
    at x.0 x.1
  where
    at : (s : ShapeRow) → find (is_shape n) t.rows ≡ Some s → KeepsContents texts columns actions faces n
    at s e =
        let found = find-relabel (filled faces) (is_node n) (is_shape n) (λ s. refl) t.rows ∙ ap (option_map (filled faces)) e in
        let row = each-find rows.IsLawful (is_node n) (whole t.rows faces) (filled faces s) tree.lawful found in
        record {
          of_texts = et;
          of_columns = ec;
          of_actions = ea;
          kinds = s.kinds;
          lawful = subst (λ (m : ℕ). IsContents s.kinds (contents_of faces m)) (found_number t n s e) row.1;
        }

text_lawful : (o : Option FaceData) → HoldsIfThere IsText (as_text o) → IsText (option_map_or known_text o (record { characters = []; caret = 0; selections = [] }))
text_lawful None h = record { short = omega arith; caret = omega arith; few = omega arith; selections = tt }
text_lawful (Some (Chars text caret marks)) h = h
text_lawful (Some (Grid k)) h = record { short = omega arith; caret = omega arith; few = omega arith; selections = tt }
text_lawful (Some (Deeds names)) h = record { short = omega arith; caret = omega arith; few = omega arith; selections = tt }

pub keeps_text : (texts columns actions : FaceKind) (faces : Faces) (n : ℕ) → KeepsContents texts columns actions faces n → KeepsText texts faces.chars n
keeps_text texts columns actions faces n h = record { kind = h.of_texts; lawful = text_lawful (get faces.chars n) h.lawful.lawful_text }

-- few of them
pub few_columns : (texts columns actions : FaceKind) (faces : Faces) (n : ℕ) → KeepsContents texts columns actions faces n → columns_in (get faces.grid n) ≤ 1024
few_columns texts columns actions faces n h = by (get faces.grid n) h.lawful.lawful_columns
  where
    by : (o : Option FaceData) → HoldsIfThere (λ (k : ℕ). (1 ≤ k) × (k ≤ 1024)) (as_columns o) → columns_in o ≤ 1024
    by None l = omega arith
    by (Some (Chars x caret marks)) l = omega arith
    by (Some (Grid k)) l = l.1
    by (Some (Deeds names)) l = omega arith

pub few_actions : (texts columns actions : FaceKind) (faces : Faces) (n : ℕ) → KeepsContents texts columns actions faces n → length (actions_in (get faces.deeds n)) ≤ 8
few_actions texts columns actions faces n h = by (get faces.deeds n) h.lawful.few_actions
  where
    by : (o : Option FaceData) → length (as_actions o) ≤ 8 → length (actions_in o) ≤ 8
    by None l = omega arith
    by (Some (Chars x caret marks)) l = omega arith
    by (Some (Grid k)) l = omega arith
    by (Some (Deeds names)) l = l
