-- A step of a text that applies to the whole tree can be done by the face, and leaves the shape as it is.
use Rattle.std.proofs.Common.{◌≡◌, ℕ, ◌+◌, ◌≤◌, Bool, true, false, cond, Option, Some, None, List, refl, sym, ap, ◌∙◌, subst, arith}
use Rattle.std.specs.Prelude.{length, take, drop, MatchOption, Result, Ok, Err, OnOk}
use Rattle.std.specs.FinMap.{get}
use Rattle.atspi_tree_model.specs.declared.contents.FaceData.{FaceData}
use Rattle.atspi_tree_model.specs.declared.contents.FaceData.TheVariants.{Chars, Grid, Deeds}
use Rattle.atspi_tree_model.specs.declared.step.Step.{Step}
use Rattle.atspi_tree_model.specs.declared.step.Step.TheVariants.{Add, Remove, Move, SetName, SetDescription, SetRole, SetState, Insert, Delete, Caret, TextSelect, Relate}
use Rattle.atspi_tree_model.specs.Forest.{Forest, nil, tree, change}
use Rattle.atspi_tree_model.specs.Row.{ShapeRow, TextContents, Holds, HoldsIfThere, on_some, IsText}
use Rattle.atspi_tree_model.specs.RowRules.{rows, shapes, after_delete}
use Rattle.atspi_tree_model.specs.Tree.{is_shape, Applies}
use Rattle.atspi_tree_model.proofs.EditLemmas.{length-delete}
use Rattle.atspi_faces.specs.declared.face.change.Change.TheVariants as changes
use Rattle.atspi_faces.specs.face.Contents.{IsChange}
use Rattle.atspi_faces.specs.face.Nodes.{Nodes}
use Rattle.atspi_tree.specs.TreeShape.{TreeShape, after_step}
use Rattle.atspi_protocol.specs.whole.Whole.{Faces, as_text, whole}
use Rattle.atspi_app_exported.specs.Parts.{Parts, parts, faces_of}
use Rattle.atspi_app_exported.proofs.Known.{row_text}
use Rattle.atspi_app_exported.specs.Doing.{after_parts, IsOfText, IsOfShape, CanDo, text_after}

-- the shape
same_labels : {A : Type 0} (p : A → Bool) (j : A → A) → ((a : A) → j a ≡ a) → (f : Forest A) → change p j f ≡ f
same_labels p j e nil = refl
same_labels {A = A} p j e (tree a c r) = rw (same_labels p j e c, same_labels p j e r) (ap (λ x. tree x c r) (at (p a)))
  where
    at : (b : Bool) → cond b (j a) a ≡ a
    at true = e a
    at false = refl

pub shape_kept : (t : TreeShape) (step : Step) → IsOfText step → after_step t step ≡ t
shape_kept t (Insert n at x) h = ap (λ f. record { rows = f; added = t.added }) (same_labels (is_shape n) (shapes.changed (Insert n at x)) (λ row. refl) t.rows)
shape_kept t (Delete n at x) h = ap (λ f. record { rows = f; added = t.added }) (same_labels (is_shape n) (shapes.changed (Delete n at x)) (λ row. refl) t.rows)
shape_kept t (Caret n at) h = ap (λ f. record { rows = f; added = t.added }) (same_labels (is_shape n) (shapes.changed (Caret n at)) (λ row. refl) t.rows)
shape_kept t (TextSelect n marks) h = ap (λ f. record { rows = f; added = t.added }) (same_labels (is_shape n) (shapes.changed (TextSelect n marks)) (λ row. refl) t.rows)
shape_kept t (Add n p i seed) h = absurd h
shape_kept t (Remove n) h = absurd h
shape_kept t (Move n p i) h = absurd h
shape_kept t (SetName n x) h = absurd h
shape_kept t (SetDescription n x) h = absurd h
shape_kept t (SetRole n r) h = absurd h
shape_kept t (SetState n s on) h = absurd h
shape_kept t (Relate n kind ts) h = absurd h

-- the parts after a step of a text, and after one of the shape
parts_by : (p : Parts) (t : TreeShape) (chars : Nodes) → t ≡ p.tree → ◌≡◌ {A = Parts} (record { tree = t; faces = record p.faces { chars = chars } }) (parts p.tree (record p.faces { chars = chars }))
parts_by p t chars e = ap (λ (s : TreeShape). parts s (record p.faces { chars = chars })) e

pub text_parts : (p : Parts) (step : Step) → IsOfText step → after_parts p step ≡ parts p.tree (record p.faces { chars = text_after p.faces.chars step })
text_parts p (Insert n at x) h = parts_by p (after_step p.tree (Insert n at x)) (text_after p.faces.chars (Insert n at x)) (shape_kept p.tree (Insert n at x) h)
text_parts p (Delete n at x) h = parts_by p (after_step p.tree (Delete n at x)) (text_after p.faces.chars (Delete n at x)) (shape_kept p.tree (Delete n at x) h)
text_parts p (Caret n at) h = parts_by p (after_step p.tree (Caret n at)) (text_after p.faces.chars (Caret n at)) (shape_kept p.tree (Caret n at) h)
text_parts p (TextSelect n marks) h = parts_by p (after_step p.tree (TextSelect n marks)) (text_after p.faces.chars (TextSelect n marks)) (shape_kept p.tree (TextSelect n marks) h)
text_parts p (Add n q i seed) h = absurd h
text_parts p (Remove n) h = absurd h
text_parts p (Move n q i) h = absurd h
text_parts p (SetName n x) h = absurd h
text_parts p (SetDescription n x) h = absurd h
text_parts p (SetRole n r) h = absurd h
text_parts p (SetState n s on) h = absurd h
text_parts p (Relate n kind ts) h = absurd h

pub shape_parts : (p : Parts) (step : Step) → IsOfShape step → after_parts p step ≡ parts (after_step p.tree step) p.faces
shape_parts p (Move n q i) h = refl
shape_parts p (SetName n x) h = refl
shape_parts p (SetDescription n x) h = refl
shape_parts p (SetRole n r) h = refl
shape_parts p (SetState n s on) h = refl
shape_parts p (Relate n kind ts) h = refl
shape_parts p (Insert n at x) h = absurd h
shape_parts p (Delete n at x) h = absurd h
shape_parts p (Caret n at) h = absurd h
shape_parts p (TextSelect n marks) h = absurd h
shape_parts p (Add n q i seed) h = absurd h
shape_parts p (Remove n) h = absurd h

pub text_done : {T E : Type 0} (p : Parts) (step : Step) (new : Nodes) (r : Result T E) → IsOfText step → OnOk r (new ≡ text_after p.faces.chars step)
    → OnOk r (parts p.tree (faces_of new p.faces.grid p.faces.deeds) ≡ after_parts p step)
text_done p step new (Ok x) h e = ap (λ (chars : Nodes). parts p.tree (faces_of chars p.faces.grid p.faces.deeds)) e ∙ sym (text_parts p step h)
text_done p step new (Err x) h e = tt

-- what the face keeps of the text of a row
insert_can : (at : ℕ) (x : List ℕ) (o : Option FaceData) → Holds (λ (t : TextContents). at ≤ length t.characters) (as_text o)
    → MatchOption o ⊥ (λ what. IsChange what (changes.Insert at x))
insert_can at x None h = h
insert_can at x (Some (Chars text caret marks)) h = h
insert_can at x (Some (Grid columns)) h = h
insert_can at x (Some (Deeds names)) h = h

delete_can : (at : ℕ) (x : List ℕ) (o : Option FaceData)
    → Holds (λ (t : TextContents). (at + length x ≤ length t.characters) × (take (length x) (drop at t.characters) ≡ x)) (as_text o)
    → HoldsIfThere IsText (on_some (after_delete at x) (as_text o)) → MatchOption o ⊥ (λ what. IsChange what (changes.Delete at (length x)))
delete_can at x None h l = h
delete_can at x (Some (Chars text caret marks)) h l =
    let inside : at + length x ≤ length text = h.0 in
    let less = length-delete at (length x) text inside in
    let c = l.caret in (inside, omega arith)
delete_can at x (Some (Grid columns)) h l = h
delete_can at x (Some (Deeds names)) h l = h

caret_can : (at : ℕ) (o : Option FaceData) → Holds (λ (t : TextContents). Unit {0}) (as_text o)
    → HoldsIfThere IsText (on_some (λ (t : TextContents). record t { caret = at }) (as_text o)) → MatchOption o ⊥ (λ what. IsChange what (changes.Caret at))
caret_can at None h l = absurd h
caret_can at (Some (Chars text caret marks)) h l = l.caret
caret_can at (Some (Grid columns)) h l = absurd h
caret_can at (Some (Deeds names)) h l = absurd h

marks_can : (marks : List (ℕ × ℕ)) (o : Option FaceData) → Holds (λ (t : TextContents). Unit {0}) (as_text o)
    → MatchOption o ⊥ (λ what. IsChange what (changes.Marks marks))
marks_can marks None h = absurd h
marks_can marks (Some (Chars text caret ranges)) h = tt
marks_can marks (Some (Grid columns)) h = absurd h
marks_can marks (Some (Deeds names)) h = absurd h

-- a step of a text that applies can be done
pub can_do : (f : Forest ShapeRow) (faces : Faces) (k : ℕ) (step : Step) → IsOfText step → Applies rows (whole f faces) k step → CanDo faces.chars step
can_do f faces k (Insert n at x) h a =
    let e = row_text f faces n a.row a.there in
    insert_can at x (get faces.chars n) (subst (Holds (λ (t : TextContents). at ≤ length t.characters)) e a.allowed.1)
can_do f faces k (Delete n at x) h a =
    let e = row_text f faces n a.row a.there in
    delete_can at x (get faces.chars n)
    (subst (Holds (λ (t : TextContents). (at + length x ≤ length t.characters) × (take (length x) (drop at t.characters) ≡ x))) e a.allowed.1)
    (subst (λ o. HoldsIfThere IsText (on_some (after_delete at x) o)) e a.lawful.1.lawful_text)
can_do f faces k (Caret n at) h a =
    let e = row_text f faces n a.row a.there in
    caret_can at (get faces.chars n) (subst (Holds (λ (t : TextContents). Unit {0})) e a.allowed.1)
    (subst (λ o. HoldsIfThere IsText (on_some (λ (t : TextContents). record t { caret = at }) o)) e a.lawful.1.lawful_text)
can_do f faces k (TextSelect n marks) h a =
    let e = row_text f faces n a.row a.there in
    marks_can marks (get faces.chars n) (subst (Holds (λ (t : TextContents). Unit {0})) e a.allowed.1)
can_do f faces k (Add n q i seed) h a = absurd h
can_do f faces k (Remove n) h a = absurd h
can_do f faces k (Move n q i) h a = absurd h
can_do f faces k (SetName n x) h a = absurd h
can_do f faces k (SetDescription n x) h a = absurd h
can_do f faces k (SetRole n r) h a = absurd h
can_do f faces k (SetState n s on) h a = absurd h
can_do f faces k (Relate n kind ts) h a = absurd h
