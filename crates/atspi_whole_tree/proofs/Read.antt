-- What the tables have of a node is what the row of the node has.
use Rattle.std.proofs.Common.{◌≡◌, ℕ, Bool, true, false, Option, Some, None, List, [], refl, sym, ap, ◌∙◌, subst, arith, true≢false, not}
use Rattle.std.specs.Prelude.{◌-◌, ◌≤◌, length, is_some, MatchOption, Result, Ok, Err, IfOk, OnOk, OnErr}
use Rattle.std.specs.Option.{option_map, option_map_or}
use Rattle.std.specs.FinMap.{get}
use Rattle.std.proofs.lemmas.List.{take_all}
use Rattle.atspi_tree_model.specs.declared.contents.Kinds.{Kinds}
use Rattle.atspi_tree_model.specs.declared.contents.FaceKind.TheVariants.{Chars as chars_kind}
use Rattle.atspi_tree_model.specs.declared.contents.FaceData.{FaceData}
use Rattle.atspi_tree_model.specs.declared.contents.FaceData.TheVariants.{Chars, Grid, Deeds}
use Rattle.atspi_tree_model.specs.declared.step.Step.{Step}
use Rattle.atspi_tree_model.specs.Forest.{has, find}
use Rattle.atspi_tree_model.specs.Row.{ShapeRow, TextContents, TreeRow, Contents}
use Rattle.atspi_tree_model.specs.RowRules.{rows}
use Rattle.atspi_tree_model.specs.Tree.{IsTree, Applies, is_node, is_shape}
use Rattle.atspi_tree_model.specs.View.{caret_of, characters_of}
use Rattle.atspi_tree_model.proofs.ShapeOf.{shape-has}
use Rattle.atspi_faces.specs.face.Contents.{kind_of, count_of, caret_of as caret_in, part_of}
use Rattle.atspi_faces.specs.face.Nodes.{Nodes, HasText, count_at, caret_at, part_at}
use Rattle.atspi_tree.specs.TreeShape.{TreeShape, root_alone, row_of}
use Rattle.atspi_protocol.specs.whole.Whole.{Faces, as_text, as_columns, contents_of, filled}
use Rattle.atspi_protocol.proofs.OfWhole.Followed.{shape_is_kept}
use Rattle.atspi_app_exported.specs.Parts.{Parts, AreEmpty, IsExported, parts, whole_of}
use Rattle.atspi_app_exported.specs.Doing.{after_parts}
use Rattle.atspi_app_exported.proofs.Following.{whole_after, exported_after, root_whole}
use Rattle.atspi_app_exported.proofs.Known.{found_row, text_is_there, kinds_found}
use Rattle.atspi_whole_tree.specs.Whole.{AppTree, first_app_tree, row_in, shape_in, tree_after}
use Rattle.atspi_whole_tree.specs.inner.Tables.{CanDoStep, app_tree_of, own_kinds}

-- a text and its caret, read out of a table
chars_by : (o : Option FaceData) (count : ℕ) (text : List ℕ) → MatchOption o ⊥ (λ what. kind_of what ≡ chars_kind) → count ≡ option_map_or count_of o 0
    → text ≡ option_map_or (λ what. part_of what 0 count) o [] → characters_of (as_text o) ≡ Some text
chars_by None count text h e t = absurd h
chars_by (Some (Chars all at ranges)) count text h e t =
    let long : length all ≤ count - 0 = omega arith in
    ap Some (sym (t ∙ take_all (count - 0) all long))
chars_by (Some (Grid columns)) count text h e t = absurd cc
chars_by (Some (Deeds names)) count text h e t = absurd cc

pub text_read : {E : Type 0} (nodes : Nodes) (node count : ℕ) (r : Result (List ℕ) E) → HasText nodes node → count ≡ count_at nodes node
    → IfOk r (λ text. text ≡ part_at nodes node 0 count) → IfOk r (λ text. characters_of (as_text (get nodes node)) ≡ Some text)
text_read nodes node count (Ok text) h e t = chars_by (get nodes node) count text h e t
text_read nodes node count (Err x) h e t = tt

caret_by : (o : Option FaceData) (caret : ℕ) → MatchOption o ⊥ (λ what. kind_of what ≡ chars_kind) → caret ≡ option_map_or caret_in o 0
    → caret_of (as_text o) ≡ Some caret
caret_by None caret h e = absurd h
caret_by (Some (Chars all at ranges)) caret h e = ap Some (sym e)
caret_by (Some (Grid columns)) caret h e = absurd cc
caret_by (Some (Deeds names)) caret h e = absurd cc

pub caret_read : (nodes : Nodes) (node caret : ℕ) → HasText nodes node → caret ≡ caret_at nodes node → caret_of (as_text (get nodes node)) ≡ Some caret
caret_read nodes node caret h e = caret_by (get nodes node) caret h e

-- a node of the whole tree is one of the shape
pub there : (p : Parts) (t : AppTree) (n : ℕ) → app_tree_of p ≡ t → has (is_node n) t.forest ≡ true → has (is_shape n) p.tree.rows ≡ true
there p t n e h =
    subst (λ f. has (is_shape n) f ≡ true) (shape_is_kept p.tree.rows p.faces)
    (shape-has n (whole_of p) ∙ subst (λ (t : AppTree). has (is_node n) t.forest ≡ true) (sym e) h)

pub shape_is : (p : Parts) (t : AppTree) → app_tree_of p ≡ t → p.tree ≡ shape_in t
shape_is p t e =
    subst (λ (t : AppTree). p.tree ≡ shape_in t) e (λ i. record { rows = sym (shape_is_kept p.tree.rows p.faces) i; added = p.tree.added })

pub lawful_is : (p : Parts) (t : AppTree) → app_tree_of p ≡ t → IsExported own_kinds p → IsTree rows t.forest t.added
lawful_is p t e x = subst (λ (t : AppTree). IsTree rows t.forest t.added) e x.lawful

-- what a node has, where its interfaces are known
module _ (p : Parts) (t : AppTree) (n : ℕ) (kinds : Kinds) (e : app_tree_of p ≡ t) (x : IsExported own_kinds p)
    (k : option_map (λ (row : ShapeRow). row.kinds) (row_of n p.tree) ≡ Some kinds) where
  found : (row : TreeRow) × (find (is_node n) t.forest ≡ Some row) × (row.contents ≡ contents_of p.faces n)
  found =
      let f = kinds_found p.tree.rows n kinds k in
      let r = found_row p.tree.rows p.faces p.tree.added n f.row x.lawful f.there in
      (filled p.faces f.row, subst (λ (t : AppTree). find (is_node n) t.forest ≡ Some (filled p.faces f.row)) e r.there, r.contents)

  kinds_there : (kinds.text ≡ is_some (as_text (get p.faces.chars n))) × (kinds.table ≡ is_some (as_columns (get p.faces.grid n)))
  kinds_there =
      let f = kinds_found p.tree.rows n kinds k in
      let r = found_row p.tree.rows p.faces p.tree.added n f.row x.lawful f.there in (
        ap (λ (k : Kinds). k.text) (sym f.kinds_are) ∙ r.lawful.text ∙ ap (λ (c : Contents). is_some c.text) r.contents,
        ap (λ (k : Kinds). k.table) (sym f.kinds_are) ∙ r.lawful.table ∙ ap (λ (c : Contents). is_some c.columns) r.contents,
      )

  pub has_text : kinds.text ≡ true → HasText p.faces.chars n
  has_text h =
      let f = kinds_found p.tree.rows n kinds k in
      text_is_there p.tree.rows p.faces p.tree.added n f.row x.lawful f.there (ap (λ (k : Kinds). k.text) f.kinds_are ∙ h)

  of_row : {A : Type 0} (F : Contents → A) (v : A) → F (contents_of p.faces n) ≡ v → option_map (λ (row : TreeRow). F row.contents) (row_in n t) ≡ Some v
  of_row F v h =
      let f = found in
      ap (option_map (λ (row : TreeRow). F row.contents)) f.1 ∙ ap (λ c. Some (F c)) f.2 ∙ ap Some h

  no_text_by : (o : Option TextContents) → is_some o ≡ false → o ≡ None
  no_text_by None h = refl
  no_text_by (Some text) h = absurd (true≢false h)

  no_columns_by : (o : Option ℕ) → is_some o ≡ false → o ≡ None
  no_columns_by None h = refl
  no_columns_by (Some columns) h = absurd (true≢false h)

  pub no_text : kinds.text ≡ false → option_map (λ (row : TreeRow). characters_of row.contents.text) (row_in n t) ≡ Some None
  no_text h = of_row (λ c. characters_of c.text) None (ap characters_of (no_text_by (as_text (get p.faces.chars n)) (sym kinds_there.0 ∙ h)))

  pub no_caret : kinds.text ≡ false → option_map (λ (row : TreeRow). caret_of row.contents.text) (row_in n t) ≡ Some None
  no_caret h = of_row (λ c. caret_of c.text) None (ap caret_of (no_text_by (as_text (get p.faces.chars n)) (sym kinds_there.0 ∙ h)))

  pub no_columns : kinds.table ≡ false → option_map (λ (row : TreeRow). row.contents.columns) (row_in n t) ≡ Some None
  no_columns h = of_row (λ c. c.columns) None (no_columns_by (as_columns (get p.faces.grid n)) (sym kinds_there.1 ∙ h))

  pub some_text : (text : List ℕ) → characters_of (as_text (get p.faces.chars n)) ≡ Some text
      → option_map (λ (row : TreeRow). characters_of row.contents.text) (row_in n t) ≡ Some (Some text)
  some_text text h = of_row (λ c. characters_of c.text) (Some text) h

  pub some_caret : (caret : ℕ) → caret_of (as_text (get p.faces.chars n)) ≡ Some caret
      → option_map (λ (row : TreeRow). caret_of row.contents.text) (row_in n t) ≡ Some (Some caret)
  some_caret caret h = of_row (λ c. caret_of c.text) (Some caret) h

  columns_by : (o : Option FaceData) (columns : ℕ) → true ≡ is_some (as_columns o) → columns ≡ option_map_or count_of o 0 → as_columns o ≡ Some columns
  columns_by None columns h e = absurd (true≢false h)
  columns_by (Some (Chars text at ranges)) columns h e = absurd (true≢false h)
  columns_by (Some (Grid m)) columns h e = ap Some (sym e)
  columns_by (Some (Deeds names)) columns h e = absurd (true≢false h)

  pub some_columns : (columns : ℕ) → kinds.table ≡ true → columns ≡ count_at p.faces.grid n
      → option_map (λ (row : TreeRow). row.contents.columns) (row_in n t) ≡ Some (Some columns)
  some_columns columns h c =
      of_row (λ c. c.columns) (Some columns) (columns_by (get p.faces.grid n) columns (sym h ∙ kinds_there.1) c)

-- a step done to the tables is one done to the tree
pub step_done : (p q : Parts) (t : AppTree) (step : Step) → app_tree_of p ≡ t → CanDoStep p step → q ≡ after_parts p step → app_tree_of q ≡ tree_after t step
step_done p q t step e c h =
    ap app_tree_of h
    ∙ (λ i. record { forest = whole_after own_kinds p step c.exported c.applies i; added = (after_parts p step).tree.added })
    ∙ ap (λ (t : AppTree). tree_after t step) e

pub kept_by : {T E : Type 0} (p q : Parts) (step : Step) (r : Result T E) → CanDoStep p step → OnOk r (q ≡ after_parts p step) → OnErr r (q ≡ p)
    → IsExported own_kinds q
kept_by p q step (Ok x) c ok err = subst (IsExported own_kinds) (sym ok) (exported_after own_kinds p step c.exported c.applies)
kept_by p q step (Err x) c ok err = subst (IsExported own_kinds) (sym err) c.exported

pub can_do : (p : Parts) (t : AppTree) (step : Step) → app_tree_of p ≡ t → IsExported own_kinds p
    → Applies rows t.forest t.added step → CanDoStep p step
can_do p t step e x a = record {
  exported = x;
  applies = subst (λ (t : AppTree). Applies rows t.forest t.added step) (sym e) a;
}

pub ok_by : {T E : Type 0} (p q : Parts) (t u : AppTree) (step : Step) (r : Result T E) → app_tree_of p ≡ t → app_tree_of q ≡ u → CanDoStep p step
    → OnOk r (q ≡ after_parts p step) → OnOk r (u ≡ tree_after t step)
ok_by p q t u step (Ok x) e w c h = sym w ∙ step_done p q t step e c h
ok_by p q t u step (Err x) e w c h = tt

pub err_by : {T E : Type 0} (p q : Parts) (t u : AppTree) (r : Result T E) → app_tree_of p ≡ t → app_tree_of q ≡ u → OnErr r (q ≡ p) → OnErr r (u ≡ t)
err_by p q t u (Ok x) e w h = tt
err_by p q t u (Err x) e w h = sym w ∙ ap app_tree_of h ∙ e

-- the root alone
pub first_is : (name : List ℕ) (t : TreeShape) (faces : Faces) → t ≡ root_alone name → AreEmpty faces → app_tree_of (parts t faces) ≡ first_app_tree name
first_is name t faces e none = λ i. record { forest = root_whole name t faces e none i; added = ap (λ (s : TreeShape). s.added) e i }

-- a test that is turned
pub not_true : (b : Bool) → not b ≡ true → b ≡ false
not_true true e = absurd (true≢false (sym e))
not_true false e = refl

pub not_false : (b : Bool) → not b ≡ false → b ≡ true
not_false true e = refl
not_false false e = absurd (true≢false e)
