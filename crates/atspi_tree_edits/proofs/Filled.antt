-- A tree of shapes is the shape of a whole tree; so the steps of an edit that reads no contents apply to a tree of shapes,
-- one after another.
use Rattle.std.proofs.Common.{◌≡◌, ◌==◌, ◌≤◌, ℕ, Bool, true, false, cond, not, Option, Some, None, List, [], ◌∷◌, length, refl, sym, ap, ◌∙◌, subst, arith}
use Rattle.std.specs.Prelude.{Result, Ok, Err, IfOk, is_some}
use Rattle.atspi_tree_model.specs.declared.contents.FaceData.TheVariants.{Deeds}
use Rattle.atspi_tree_model.specs.declared.contents.Kinds.{Kinds}
use Rattle.atspi_tree_model.specs.declared.edit.Edit.{Edit}
use Rattle.atspi_tree_model.specs.declared.edit.Edit.TheVariants.{Insert, Remove, Move, Name, Describe, Role, State, Focus, Put, Keys, Cut, Caret, Mark, Unmark, Select, Deselect, Press, Relate, Unrelate}
use Rattle.atspi_tree_model.specs.declared.contents.FaceData.{FaceData}
use Rattle.atspi_tree_model.specs.declared.step.Step.{Step}
use Rattle.atspi_tree_model.specs.declared.step.StepList.{StepList}
use Rattle.atspi_tree_model.specs.Edits.{IsEdit, contents_read, steps_of}
use Rattle.atspi_tree_model.specs.Forest.{Forest, nil, tree, count, has, relabel, EachLabel}
use Rattle.atspi_tree_model.specs.Row.{ShapeRow, TextContents, Contents, TreeRow, HoldsIfThere, IsShape, IsText, IsColumns, IsContents}
use Rattle.atspi_tree_model.specs.RowRules.{shapes, rows, shape_targets}
use Rattle.atspi_tree_model.specs.Tree.{IsTree, IsRooted, HasTargets, AllApply, added_after, after, is_shape, is_node, shape_of}
use Rattle.atspi_tree_model.proofs.EditsApply.{steps_apply}
use Rattle.atspi_tree_model.proofs.Found.{EachLabel-weaker}
use Rattle.atspi_tree_model.proofs.Labels.{each_relabel, each_weaker}
use Rattle.atspi_tree_model.proofs.Relabel.{count-relabel, has-relabel, relabel-relabel}
use Rattle.atspi_tree_model.proofs.ShapeOf.{shape_after, shape_applies}
use Rattle.atspi_tree.specs.TreeShape.{TreeShape, IsLawful}
use Rattle.atspi_tree_edits.specs.declared.fault.EditRefused.{EditRefused}
use Rattle.atspi_tree_edits.specs.Answers.{GivesSteps, ReadsNone, edit_steps}

some_text : Bool → Option TextContents
some_text true = Some (record { characters = []; caret = 0; selections = [] })
some_text false = None

some_columns : Bool → Option ℕ
some_columns true = Some 1
some_columns false = None

some_actions : Bool → List (List ℕ)
some_actions true = [] ∷ []
some_actions false = []

-- a row with contents of just the kinds of its shape
filled : ShapeRow → TreeRow
filled row = record { shape = row; contents = record { text = some_text row.kinds.text; columns = some_columns row.kinds.table; actions = some_actions row.kinds.action } }

lawful_text : (b : Bool) → (b ≡ is_some (some_text b)) × HoldsIfThere IsText (some_text b)
unfolding some_text
lawful_text true = (refl, record { short = omega arith; caret = omega arith; few = omega arith; selections = tt })
lawful_text false = (refl, tt)

lawful_columns : (b : Bool) → (b ≡ is_some (some_columns b)) × HoldsIfThere IsColumns (some_columns b)
unfolding some_columns
lawful_columns true = (refl, (omega arith, omega arith))
lawful_columns false = (refl, tt)

lawful_actions : (b : Bool) → (b ≡ not (length (some_actions b) == 0)) × (length (some_actions b) ≤ 8)
unfolding some_actions
lawful_actions true = (refl, omega arith)
lawful_actions false = (refl, omega arith)

filled_lawful : (row : ShapeRow) → IsShape row → rows.IsLawful (filled row)
unfolding filled
filled_lawful row s =
    let t = lawful_text row.kinds.text in
    let c = lawful_columns row.kinds.table in
    let a = lawful_actions row.kinds.action in
    (s, record { text = t.0; lawful_text = t.1; table = c.0; lawful_columns = c.1; action = a.0; few_actions = a.1 })

shape_back : (g : Forest ShapeRow) → shape_of (relabel filled g) ≡ g
unfolding filled
shape_back g = relabel-relabel filled (λ row. row.shape) g ∙ same g
  where
    same : (g : Forest ShapeRow) → relabel (λ row. row) g ≡ g
    same nil = refl
    same (tree a c r) = rw (same c, same r) refl

filled_tree : (g : Forest ShapeRow) (k : ℕ) → IsTree shapes g k → IsTree rows (relabel filled g) k
unfolding filled
filled_tree g k t = record {
  rooted = top g t.rooted;
  once = λ n. let e = number n in let l = t.once n in omega arith;
  numbered = λ n l. number n ∙ t.numbered n l;
  few = let e = count-relabel filled (λ row. true) (λ row. true) (λ row. refl) g in let l = t.few in omega arith;
  few_ever = t.few_ever;
  lawful = each_relabel rows.IsLawful filled g (EachLabel-weaker IsShape (λ row. rows.IsLawful (filled row)) filled_lawful g t.lawful);
  targets = each_relabel (λ row. HasTargets rows (relabel filled g) (rows.targets row)) filled g
      (EachLabel-weaker (λ row. HasTargets shapes g (shapes.targets row)) (λ row. HasTargets rows (relabel filled g) (rows.targets (filled row)))
      (λ row. each_weaker (λ n. has (is_shape n) g ≡ true) (λ n. has (is_node n) (relabel filled g) ≡ true) (λ n h. has-relabel filled (is_node n) (is_shape n) (λ row. refl) g ∙ h) (shape_targets row)) g t.targets);
}
  where
    number : (n : ℕ) → count (is_node n) (relabel filled g) ≡ count (is_shape n) g
    number n = count-relabel filled (is_node n) (is_shape n) (λ row. refl) g

    top : (f : Forest ShapeRow) → IsRooted shapes f → IsRooted rows (relabel filled f)
    top f (row, children, z, e) = (filled row, relabel filled children, z, ap (relabel filled) e)

all_shapes : (f : Forest TreeRow) (k : ℕ) (steps : List Step) → AllApply rows f k steps → AllApply shapes (shape_of f) k steps
all_shapes f k [] h = tt
all_shapes f k (s ∷ ss) h =
    (shape_applies f k s h.0, subst (λ g. AllApply shapes g (added_after k s) ss) (shape_after f s) (all_shapes (after rows f s) (added_after k s) ss h.1))

reads_none : (f : Forest TreeRow) (edit : Edit) → ReadsNone edit → contents_read f edit ≡ Deeds []
reads_none f (Insert p i seed) h = refl
reads_none f (Remove n) h = refl
reads_none f (Move n p i) h = refl
reads_none f (Name n x) h = refl
reads_none f (Describe n x) h = refl
reads_none f (Role n x) h = refl
reads_none f (State n s on) h = refl
reads_none f (Focus n) h = refl
reads_none f (Select n i) h = refl
reads_none f (Deselect n i) h = refl
reads_none f (Relate n kind m) h = refl
reads_none f (Unrelate n kind m) h = refl
reads_none f (Put n at x) h = absurd h
reads_none f (Keys n x) h = absurd h
reads_none f (Cut n from to) h = absurd h
reads_none f (Caret n at) h = absurd h
reads_none f (Mark n from to) h = absurd h
reads_none f (Unmark n) h = absurd h
reads_none f (Press n i) h = absurd h

-- each step of an edit that reads no contents applies to the tree after the steps before it
pub shape_steps_apply : (t : TreeShape) (edit : Edit) (steps : List Step) → IsLawful t → IsEdit edit → ReadsNone edit → edit_steps t (Deeds []) edit ≡ Ok steps
    → AllApply shapes t.rows t.added steps
shape_steps_apply t edit steps lawful w plain h =
    let f = relabel filled t.rows in
    let back = shape_back t.rows in
    subst (λ g. AllApply shapes g t.added steps) back
    (all_shapes f t.added steps (steps_apply f t.added edit steps (filled_tree t.rows t.added lawful) w
    (ap (λ g. steps_of g t.added (contents_read f edit) edit) back ∙ (ap (λ known. steps_of t.rows t.added known edit) (reads_none f edit plain) ∙ h))))

-- the steps of such an edit are the same, whatever is known
plain_steps : (t : TreeShape) (known : FaceData) (edit : Edit) → ReadsNone edit → edit_steps t known edit ≡ edit_steps t (Deeds []) edit
plain_steps t known (Insert p i seed) h = refl
plain_steps t known (Remove n) h = refl
plain_steps t known (Move n p i) h = refl
plain_steps t known (Name n x) h = refl
plain_steps t known (Describe n x) h = refl
plain_steps t known (Role n x) h = refl
plain_steps t known (State n s on) h = refl
plain_steps t known (Focus n) h = refl
plain_steps t known (Select n i) h = refl
plain_steps t known (Deselect n i) h = refl
plain_steps t known (Relate n kind m) h = refl
plain_steps t known (Unrelate n kind m) h = refl
plain_steps t known (Put n at x) h = absurd h
plain_steps t known (Keys n x) h = absurd h
plain_steps t known (Cut n from to) h = absurd h
plain_steps t known (Caret n at) h = absurd h
plain_steps t known (Mark n from to) h = absurd h
plain_steps t known (Unmark n) h = absurd h
plain_steps t known (Press n i) h = absurd h

-- so the steps that are told apply
pub told_apply : (t : TreeShape) (known : FaceData) (edit : Edit) (result : Result StepList EditRefused) → IsLawful t → IsEdit edit → GivesSteps result (edit_steps t known edit)
    → ReadsNone edit → IfOk result (AllApply shapes t.rows t.added)
told_apply t known edit (Ok steps) lawful w gives plain = shape_steps_apply t edit steps lawful w plain (sym (plain_steps t known edit plain) ∙ gives)
told_apply t known edit (Err fault) lawful w gives plain = tt
