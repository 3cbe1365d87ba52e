-- What is spoken of a tree is read from its shape.
use Rattle.std.proofs.Common.{◌≡◌, ℕ, List, [], ◌∷◌, Option, None, Some, refl, sym, ap, ◌∙◌, Bool, false, true≢false, Result, IfOk}
use Rattle.std.specs.Prelude.{codes}
use Rattle.std.specs.Option.{option_map, option_to_list}
use Rattle.std.proofs.lemmas.Result.{IfOk-weaker}
use Rattle.atspi_tree_model.specs.declared.step.Step.{Step}
use Rattle.atspi_tree_model.specs.declared.step.Step.TheVariants.{Add, Remove, Move, SetName, SetDescription, SetRole, SetState, Insert, Delete, Caret, TextSelect, Relate}
use Rattle.atspi_tree_model.specs.Forest.{Forest, nil, tree, find, has}
use Rattle.atspi_tree_model.specs.Row.{ShapeRow, TreeRow}
use Rattle.atspi_tree_model.specs.RowRules.{shapes}
use Rattle.atspi_tree_model.specs.Tree.{is_node, is_shape, shape_of, IsTree}
use Rattle.atspi_tree_model.proofs.Found.{find-passes, has-count}
use Rattle.atspi_tree_model.proofs.Lookup.{find-relabel}
use Rattle.atspi_tree_model.proofs.ShapeOf.{same_shape}
use Rattle.atspi_speech.specs.Speech.{Subject, of_node, of_found, node_at, says_after, alert_lines, name_lines, state_lines, text_lines, closing_of, closing_says}
use Rattle.atspi_tree.specs.TreeShape.{TreeShape, row_of}
use Rattle.atspi_due_lines.specs.inner.Subjects.{of_shape, shape_at, shape_says}

same_subject : (o : Option TreeRow) → option_map of_shape (option_map (λ (row : TreeRow). row.shape) o) ≡ option_map of_node o
same_subject None = refl
same_subject (Some row) = refl

module _ (f : Forest TreeRow) (t : TreeShape) (e : shape_of f ≡ t.rows) where
  at : (n : ℕ) → shape_at n t ≡ node_at n f
  at n =
      ap (λ rows. option_map of_shape (find (is_shape n) rows)) (sym e)
      ∙ ap (option_map of_shape) (find-relabel (λ (row : TreeRow). row.shape) (is_shape n) (is_node n) (same_shape n) f)
      ∙ same_subject (find (is_node n) f)

  of : (F : Subject → List (List ℕ)) (n : ℕ) → of_found F (shape_at n t) ≡ of_found F (node_at n f)
  of F n = ap (of_found F) (at n)

  pub says : (step : Step) → shape_says t step ≡ says_after f step
  says (Add n p i seed) = of alert_lines n
  says (Remove n) = refl
  says (Move n p i) = refl
  says (SetName n x) = of name_lines n
  says (SetDescription n x) = refl
  says (SetRole n r) = refl
  says (SetState n s on) = of (state_lines s on) n
  says (Insert n at x) = of (text_lines (codes "typed: ") x) n
  says (Delete n at x) = of (text_lines (codes "deleted: ") x) n
  says (Caret n at) = refl
  says (TextSelect n marks) = refl
  says (Relate n kind ts) = refl

-- a node that is not there
none_by : (n : ℕ) (f : Forest ShapeRow) (o : Option ShapeRow) → find (is_shape n) f ≡ o → has (is_shape n) f ≡ false → o ≡ None
none_by n f None e h = refl
none_by n f (Some row) e h = absurd (true≢false (sym (has-count (is_shape n) f (find-passes (is_shape n) f row e).1) ∙ h))

pub none_there : (n : ℕ) (t : TreeShape) (b : Bool) → b ≡ has (is_shape n) t.rows → b ≡ false → None ≡ shape_at n t
none_there n t b e h = sym (ap (option_map of_shape) (none_by n t.rows (row_of n t) refl (sym e ∙ h)))

-- the name of the root
root_named : (f : Forest TreeRow) (rows : Forest ShapeRow) (row : ShapeRow) (below : Forest ShapeRow) (name : List ℕ)
    → shape_of f ≡ rows → rows ≡ tree row below nil → option_map (λ (row : ShapeRow). row.name) (find (is_shape 0) rows) ≡ Some name
    → row.node ≡ 0 → closing_says f ≡ closing_of (Some name)
root_named nil rows row below name e r n z = absurd cc
root_named (tree a c rest) rows row below name e r n z =
    let same : a.shape ≡ row = cc in
    let found : find (is_shape 0) (tree row below nil) ≡ Some row = rw z refl in
    let m : option_map (λ (row : ShapeRow). row.name) (Some row) ≡ Some name = ap (option_map (λ (row : ShapeRow). row.name)) (sym found ∙ ap (find (is_shape 0)) (sym r)) ∙ n in
    let k : row.name ≡ name = cc in
    ap (λ x. closing_of (Some x)) (ap (λ (s : ShapeRow). s.name) same ∙ k)

pub closes : (f : Forest TreeRow) (t : TreeShape) (name : List ℕ) → shape_of f ≡ t.rows → IsTree shapes t.rows t.added
    → option_map (λ (row : ShapeRow). row.name) (row_of 0 t) ≡ Some name → closing_says f ≡ closing_of (Some name)
closes f t name e lawful n =
    let r = lawful.rooted in
    root_named f t.rows r.0 r.1 name e r.3 n r.2

pub closed_by : {E : Type 0} (f : Forest TreeRow) (t : TreeShape) (name : List ℕ) (r : Result (List ℕ) E) → shape_of f ≡ t.rows → IsTree shapes t.rows t.added
    → option_map (λ (row : ShapeRow). row.name) (row_of 0 t) ≡ Some name → IfOk r (λ line. closing_of (Some name) ≡ line ∷ [])
    → IfOk r (λ line. closing_says f ≡ line ∷ [])
closed_by f t name r e lawful n h =
    IfOk-weaker r (λ line. closing_of (Some name) ≡ line ∷ []) (λ line. closing_says f ≡ line ∷ []) (λ line k. closes f t name e lawful n ∙ k) h

pub said_by : {E : Type 0} (f : Forest TreeRow) (t : TreeShape) (step : Step) (r : Result (Option (List ℕ)) E) → shape_of f ≡ t.rows
    → IfOk r (λ line. option_to_list line ≡ shape_says t step) → IfOk r (λ line. option_to_list line ≡ says_after f step)
said_by f t step r e h =
    IfOk-weaker r (λ line. option_to_list line ≡ shape_says t step) (λ line. option_to_list line ≡ says_after f step) (λ line k. k ∙ says f t e step) h
