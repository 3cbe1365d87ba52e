-- The columns of a node of what an application exports.
use Rattle.std.proofs.Common.{◌≡◌, ℕ, true, false, List, Option, None, Some, Ok, Err, refl, sym, ap, ◌∙◌, true≢false}
use Rattle.std.specs.Prelude.{is_some, unwrap_or}
use Rattle.std.specs.FinMap.{get}
use Rattle.std.proofs.lemmas.Bool.{eqb-true}
use Rattle.atspi_tree_model.specs.declared.contents.FaceData.{FaceData}
use Rattle.atspi_tree_model.specs.declared.contents.FaceData.TheVariants.{Chars, Grid, Deeds}
use Rattle.atspi_tree_model.specs.Forest.{Forest, find, has}
use Rattle.atspi_tree_model.specs.Row.{ShapeRow, TreeRow}
use Rattle.atspi_tree_model.specs.RowRules.{rows}
use Rattle.atspi_tree_model.specs.Tree.{IsTree, is_node, is_shape}
use Rattle.atspi_faces.specs.face.Nodes.{Nodes, count_at}
use Rattle.atspi_protocol.specs.whole.Whole.{Faces, as_columns, whole}
use Rattle.atspi_protocol.proofs.OfWhole.Followed.{shape_is_kept}
use Rattle.atspi_app_exported.proofs.Known.{found_row, row_found}
use Rattle.atspi_tree_model.proofs.Found.{find-passes, has-count}
use Rattle.atspi_tree_model.specs.declared.edit.Edit.{Edit}
use Rattle.atspi_tree_model.specs.declared.step.Step.{Step}
use Rattle.atspi_tree_model.specs.Edits.{steps_of_tree}
use Rattle.atspi_tree_model.specs.Tree.{after_all, first_tree, shape_of}
use Rattle.atspi_tree_edits.specs.declared.fault.EditRefused.{EditRefused}
use Rattle.atspi_tree_edits.specs.declared.fault.EditRefused.TheVariants as refusals
use Rattle.atspi_tree.specs.TreeShape.{TreeShape}
use Rattle.atspi_app_exported.specs.Asking.{AnswersSteps}
use Rattle.atspi_app_exported.specs.Doing.{added_all}
use Rattle.atspi_app_exported.specs.Parts.{Parts, whole_of}
use Rattle.atspi_run_hit.specs.Wholes.{WholeTree, begins, columns_in, edited, stepped}
use Rattle.atspi_run_hit.specs.inner.Seen.{EditsTree, whole_in}

-- a node that is not there has none
none_by : (f : Forest ShapeRow) (faces : Faces) (n : ℕ) (o : Option ShapeRow) → find (is_shape n) f ≡ o → has (is_shape n) f ≡ false → find (is_node n) (whole f faces) ≡ None
none_by f faces n None e h = row_found f faces n ∙ rw e refl
none_by f faces n (Some r) e h = absurd (true≢false (sym (has-count (is_shape n) f (find-passes (is_shape n) f r e).1) ∙ h))

pub columns_of_none : (f : Forest ShapeRow) (faces : Faces) (n : ℕ) → has (is_shape n) f ≡ false → 0 ≡ columns_in (find (is_node n) (whole f faces))
columns_of_none f faces n h = sym (ap columns_in (none_by f faces n (find (is_shape n) f) refl h))

-- nor has one without a table
no_columns_by : (c : Option ℕ) → false ≡ is_some c → 0 ≡ unwrap_or c 0
no_columns_by None e = refl
no_columns_by (Some n) e = absurd (true≢false (sym e))

pub columns_of_other : (f : Forest ShapeRow) (faces : Faces) (k n : ℕ) (row : ShapeRow) → IsTree rows (whole f faces) k → find (is_shape n) f ≡ Some row → row.kinds.table ≡ false
    → 0 ≡ columns_in (find (is_node n) (whole f faces))
columns_of_other f faces k n row t e kind =
    let x = found_row f faces k n row t e in
    no_columns_by (as_columns (get faces.grid row.node)) (sym kind ∙ x.lawful.table) ∙ sym (ap columns_in x.there)

-- a table has as many as its face says
count_by : (o : Option FaceData) → true ≡ is_some (as_columns o) → (nodes : Nodes) (n : ℕ) → get nodes n ≡ o → count_at nodes n ≡ unwrap_or (as_columns o) 0
count_by None e nodes n h = absurd (true≢false e)
count_by (Some (Chars text caret marks)) e nodes n h = absurd (true≢false e)
count_by (Some (Grid columns)) e nodes n h = rw h refl
count_by (Some (Deeds names)) e nodes n h = absurd (true≢false e)

pub columns_of_table : (f : Forest ShapeRow) (faces : Faces) (k n : ℕ) (row : ShapeRow) → IsTree rows (whole f faces) k → find (is_shape n) f ≡ Some row → row.kinds.table ≡ true
    → count_at faces.grid n ≡ columns_in (find (is_node n) (whole f faces))
columns_of_table f faces k n row t e kind =
    let x = found_row f faces k n row t e in
    let same : get faces.grid row.node ≡ get faces.grid n = ap (get faces.grid) node in
    count_by (get faces.grid n) (sym kind ∙ x.lawful.table ∙ ap (λ o. is_some (as_columns o)) same) faces.grid n refl ∙ sym (ap columns_in x.there ∙ ap (λ o. unwrap_or (as_columns o) 0) same)
  where
    node : row.node ≡ n
    node = eqb-true row.node n (find-passes (is_shape n) f row e).0

-- THE WHOLE TREE: its shape, its start, and edits
pub same_shape : (p : Parts) → ◌≡◌ {A = TreeShape} (record { rows = shape_of (whole_of p); added = p.tree.added }) p.tree
same_shape p = ap (λ (f : Forest ShapeRow). record { rows = f; added = p.tree.added }) (shape_is_kept p.tree.rows p.faces)

abbrev whole_with : Forest TreeRow → ℕ → WholeTree
whole_with nodes added = record { nodes = nodes; added = added }

pub begins_so : (p : Parts) (name : List ℕ) → whole_of p ≡ first_tree rows name → p.tree.added ≡ 0 → whole_in p ≡ begins name
begins_so p name h e = ap (λ f. whole_with f p.tree.added) h ∙ ap (whole_with (first_tree rows name)) e

pub edited_so : (p q : Parts) (edit : Edit) (steps : List Step) → steps_of_tree (whole_of p) p.tree.added edit ≡ Ok steps → whole_of q ≡ after_all rows (whole_of p) steps → q.tree.added ≡ added_all p.tree.added steps
    → edited (whole_in p) edit ≡ Ok (whole_in q)
edited_so p q edit steps h f a =
    ap (stepped (whole_in p)) h ∙ ap (λ n. Ok (whole_with n (added_all p.tree.added steps))) (sym f) ∙ ap (λ n. Ok (whole_with (whole_of q) n)) (sym a)

pub edit_refused : (fault : EditRefused) (p q : Parts) (edit : Edit) → AnswersSteps (Err fault) (steps_of_tree (whole_of p) p.tree.added edit) → EditsTree {A = Unit {0}} (Err fault) (whole_in p) edit (whole_in q)
edit_refused (refusals.Refused why) p q edit h = ap (stepped (whole_in p)) h
edit_refused refusals.NoMemory p q edit h = tt
