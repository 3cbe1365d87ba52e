-- The parts after a step are what is exported after it.
use Rattle.std.proofs.Common.{◌≡◌, ℕ, ◌<◌, None, List, [], sym, ap, ◌∙◌, subst, arith, Bool, true}
use Rattle.std.specs.FinMap.{get, get-empty, remove}
use Rattle.std.specs.Prelude.{Result, Ok, Err, OnOk, OnErr}
use Rattle.std.specs.Ordering.{nat_cmp}
use Rattle.atspi_tree_model.specs.declared.step.Seed.{Seed}
use Rattle.atspi_tree_model.specs.declared.step.Step.{Step}
use Rattle.atspi_tree_model.specs.declared.step.Step.TheVariants.{Add, Remove, Move, SetName, SetDescription, SetRole, SetState, Insert, Delete, Caret, TextSelect, Relate}
use Rattle.atspi_tree_model.specs.Forest.{Forest, nil, tree, count, has}
use Rattle.atspi_tree_model.specs.Row.{TreeRow, Contents, IsName}
use Rattle.atspi_tree_model.specs.RowRules.{rows, shapes, first_shape}
use Rattle.atspi_tree_model.specs.Tree.{is_shape, after, added_after, IsTree, Applies, Changes, first_tree, root_seed}
use Rattle.atspi_tree_model.proofs.Begins.{rows_begin}
use Rattle.atspi_tree_model.proofs.Found.{not_there, has-count, find-passes}
use Rattle.atspi_tree_model.proofs.Kept.{after_is_tree}
use Rattle.atspi_tree_model.proofs.RowRules.{rows_sound}
use Rattle.atspi_tree_model.proofs.ShapeOf.{shape_applies, shape-count}
use Rattle.atspi_faces.specs.face.Nodes.{Nodes}
use Rattle.atspi_tree.specs.TreeShape.{TreeShape, StepApplies, root_alone}
use Rattle.atspi_protocol.specs.whole.Whole.{Faces, as_text, as_columns, as_actions, contents_of, KnowsNo, with_text, with_columns, with_actions}
use Rattle.atspi_protocol.proofs.OfWhole.Followed.{shape_is_kept, steps_are_followed}
use Rattle.atspi_app_exported.specs.Parts.{Parts, Kinds, AreKinds, IsExported, IsEmpty, AreEmpty, AreSmall, parts, faces_of, whole_of}
use Rattle.atspi_app_exported.specs.Doing.{after_parts, IsAdd}
use Rattle.atspi_app_exported.proofs.Opened.{same_faces, text_back, columns_back, actions_back}

-- what applies to the whole applies to the shape
pub applies_to_shape : (p : Parts) (step : Step) → Applies rows (whole_of p) p.tree.added step → StepApplies p.tree step
applies_to_shape p step a = subst (λ f. Applies shapes f p.tree.added step) (shape_is_kept p.tree.rows p.faces) (shape_applies (whole_of p) p.tree.added step a)

-- the whole after a step
pub whole_after : (kinds : Kinds) (p : Parts) (step : Step) → IsExported kinds p → Applies rows (whole_of p) p.tree.added step
    → whole_of (after_parts p step) ≡ after rows (whole_of p) step
whole_after kinds p step e a = (steps_are_followed p.tree.rows p.faces p.tree.added step e.only e.lawful a).tree

pub exported_after : (kinds : Kinds) (p : Parts) (step : Step) → IsExported kinds p → Applies rows (whole_of p) p.tree.added step
    → IsExported kinds (after_parts p step)
exported_after kinds p step e a =
    let x = steps_are_followed p.tree.rows p.faces p.tree.added step e.only e.lawful a in
    record {
      kinds = e.kinds;
      only = x.only;
      lawful = subst (λ f. IsTree rows f (added_after p.tree.added step)) (sym x.tree) (after_is_tree rows rows_sound (whole_of p) p.tree.added step e.lawful a);
    }

-- a node that was never added is known to no face
pub unknown : (kinds : Kinds) (p : Parts) (n : ℕ) → IsExported kinds p → p.tree.added < n → KnowsNo p.faces n
unknown kinds p n e l =
    e.only n (not_there (is_shape n) p.tree.rows
    (subst (λ f. count (is_shape n) f ≡ 0) (shape_is_kept p.tree.rows p.faces) (shape-count n (whole_of p) ∙ e.lawful.numbered n l)))

pub new_is_unknown : (kinds : Kinds) (p : Parts) (step : Step) (n : ℕ) (seed : Seed) → IsExported kinds p → Applies rows (whole_of p) p.tree.added step
    → IsAdd step n seed → KnowsNo p.faces n
new_is_unknown kinds p (Add m q i seed) n first e a is = unknown kinds p n e (let x = a.next in let y = is.0 in omega arith)
new_is_unknown kinds p (Remove m) n first e a is = absurd is
new_is_unknown kinds p (Move m q i) n first e a is = absurd is
new_is_unknown kinds p (SetName m x) n first e a is = absurd is
new_is_unknown kinds p (SetDescription m x) n first e a is = absurd is
new_is_unknown kinds p (SetRole m r) n first e a is = absurd is
new_is_unknown kinds p (SetState m s on) n first e a is = absurd is
new_is_unknown kinds p (Insert m at x) n first e a is = absurd is
new_is_unknown kinds p (Delete m at x) n first e a is = absurd is
new_is_unknown kinds p (Caret m at) n first e a is = absurd is
new_is_unknown kinds p (TextSelect m marks) n first e a is = absurd is
new_is_unknown kinds p (Relate m kind ts) n first e a is = absurd is

-- numbers have 32 bits
pub small_texts : (kinds : Kinds) (p : Parts) → IsExported kinds p → AreSmall p.faces.chars
small_texts kinds p e = λ n l. (unknown kinds p n e (let few = e.lawful.few_ever in omega arith)).0

pub small_columns : (kinds : Kinds) (p : Parts) → IsExported kinds p → AreSmall p.faces.grid
small_columns kinds p e = λ n l. (unknown kinds p n e (let few = e.lawful.few_ever in omega arith)).1

pub small_actions : (kinds : Kinds) (p : Parts) → IsExported kinds p → AreSmall p.faces.deeds
small_actions kinds p e = λ n l. (unknown kinds p n e (let few = e.lawful.few_ever in omega arith)).2

-- a node that can be removed is in the tree
pub removed_there : (p : Parts) (n : ℕ) → Applies rows (whole_of p) p.tree.added (Remove n) → has (is_shape n) p.tree.rows ≡ true
removed_there p n a = (applies_to_shape p (Remove n) a).there

-- the root alone, over faces that know nothing
nothing_known : (nodes : Nodes) (n : ℕ) → IsEmpty nodes → get nodes n ≡ None
nothing_known nodes n e = ap (λ m. get m n) e ∙ get-empty nat_cmp n

root_contents : (faces : Faces) → AreEmpty faces → contents_of faces 0 ≡ record { text = None; columns = None; actions = [] }
root_contents faces e = λ i. record {
  text = as_text (nothing_known faces.chars 0 e.texts i);
  columns = as_columns (nothing_known faces.grid 0 e.columns i);
  actions = as_actions (nothing_known faces.deeds 0 e.actions i);
}

abbrev root_with : List ℕ → Contents → Forest TreeRow
root_with name x = tree (record { shape = first_shape 0 (root_seed name); contents = x }) nil nil

pub root_whole : (name : List ℕ) (t : TreeShape) (faces : Faces) → t ≡ root_alone name → AreEmpty faces → whole_of (parts t faces) ≡ first_tree rows name
root_whole name t faces e none =
    ap (λ (s : TreeShape). whole_of (parts s faces)) e
    ∙ ap (λ (x : Contents). root_with name x) (root_contents faces none)

pub root_exported : (kinds : Kinds) (name : List ℕ) (t : TreeShape) (faces : Faces) → AreKinds kinds → IsName name → t ≡ root_alone name
    → AreEmpty faces → IsExported kinds (parts t faces)
root_exported kinds name t faces k named e none = record {
  kinds = k;
  only = λ n h. (nothing_known faces.chars n none.texts, nothing_known faces.grid n none.columns, nothing_known faces.deeds n none.actions);
  lawful =
      subst (λ f. IsTree rows f t.added) (sym (root_whole name t faces e none))
      (subst (IsTree rows (first_tree rows name)) (sym (ap (λ (s : TreeShape). s.added) e)) (rows_begin name named));
}

-- a node whose state is set is in the tree
pub state_there : (p : Parts) (step : Step) (n s : ℕ) (on : Bool) → step ≡ SetState n s on → Applies rows (whole_of p) p.tree.added step → has (is_shape n) p.tree.rows ≡ true
state_there p step n s on e a =
    let b : Changes shapes p.tree.rows (SetState n s on) = applies_to_shape p (SetState n s on) (subst (Applies rows (whole_of p) p.tree.added) e a) in
    has-count (is_shape n) p.tree.rows (find-passes (is_shape n) p.tree.rows b.row b.there).1

-- an addition that is taken back
pub add_undone : (p : Parts) (t : TreeShape) (n : ℕ) (seed : Seed) (c g d c' g' d' : Nodes) → t ≡ p.tree → KnowsNo p.faces n
    → c ≡ with_text n seed.text p.faces.chars → g ≡ with_columns n seed.columns p.faces.grid → d ≡ with_actions n seed.actions p.faces.deeds
    → c' ≡ remove c n → g' ≡ remove g n → d' ≡ remove d n → parts t (faces_of c' g' d') ≡ p
add_undone p t n seed c g d c' g' d' e lacks tc tg td rc rg rd =
    let faces = same_faces c' p.faces.chars g' p.faces.grid d' p.faces.deeds
    (text_back p.faces.chars c c' n seed.text lacks.0 tc rc) (columns_back p.faces.grid g g' n seed.columns lacks.1 tg rg) (actions_back p.faces.deeds d d' n seed.actions lacks.2 td rd) in
    λ i. parts (e i) (faces i)

-- what a step that may fail leaves
pub exported_by : {T E : Type 0} (kinds : Kinds) (p q : Parts) (new : Kinds) (step : Step) (r : Result T E) → IsExported kinds p → Applies rows (whole_of p) p.tree.added step
    → OnOk r (q ≡ after_parts p step) → OnErr r (q ≡ p) → new ≡ kinds → IsExported new q
exported_by kinds p q new step (Ok x) e a ok err k =
    subst (λ m. IsExported m q) (sym k) (subst (IsExported kinds) (sym ok) (exported_after kinds p step e a))
exported_by kinds p q new step (Err x) e a ok err k = subst (λ m. IsExported m q) (sym k) (subst (IsExported kinds) (sym err) e)

pub whole_by : {T E : Type 0} (kinds : Kinds) (p q : Parts) (step : Step) (r : Result T E) → IsExported kinds p → Applies rows (whole_of p) p.tree.added step
    → OnOk r (q ≡ after_parts p step) → OnOk r (whole_of q ≡ after rows (whole_of p) step)
whole_by kinds p q step (Ok x) e a ok = ap whole_of ok ∙ whole_after kinds p step e a
whole_by kinds p q step (Err x) e a ok = tt

pub added_by_step : {T E : Type 0} (p q : Parts) (step : Step) (r : Result T E) → OnOk r (q ≡ after_parts p step) → OnOk r (q.tree.added ≡ added_after p.tree.added step)
added_by_step p q step (Ok x) ok = ap (λ (x : Parts). x.tree.added) ok
added_by_step p q step (Err x) ok = tt
