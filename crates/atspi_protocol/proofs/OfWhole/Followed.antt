-- A step done to the shape and to the faces is the step of the whole.
use Rattle.std.proofs.Common.{◌≡◌, ℕ, zero, suc, ◌+◌, ◌*◌, ◌≤◌, Bool, true, false, cond, Option, Some, None, List, [], ◌∷◌, ◌++◌, refl, sym, ap, ◌∙◌, subst, arith}
use Rattle.std.specs.Prelude.{◌==◌, length, take, drop, map}
use Rattle.std.specs.Option.{option_map}
use Rattle.std.specs.FinMap.{get}
use Rattle.std.proofs.lemmas.Bool.{eqb-true, eqb-false, eq-eqb, le-leb}
use Rattle.std.proofs.lemmas.List.{map-append}
use Rattle.atspi_tree_model.specs.declared.contents.FaceData.{FaceData}
use Rattle.atspi_tree_model.specs.declared.contents.FaceData.TheVariants.{Chars, Grid, Deeds}
use Rattle.atspi_tree_model.specs.declared.step.Seed.{Seed}
use Rattle.atspi_tree_model.specs.declared.step.Step.TheVariants.{Add, Remove, Move, SetName, SetDescription, SetRole, SetState, Insert, Delete, Caret, TextSelect, Relate}
use Rattle.atspi_tree_model.specs.Forest.{Forest, nil, tree, labels, count, has, put_in, take_out, pick, relabel, change, find, EachLabel}
use Rattle.atspi_tree_model.specs.Row.{ShapeRow, TextContents, TreeRow, Holds, on_some}
use Rattle.atspi_tree_model.specs.RowRules.{rows, shapes, first_shape, first_text, after_insert, after_delete}
use Rattle.atspi_tree_model.specs.Tree.{is_node, is_shape, in_subtree, IsTree, Adds, Moves}
use Rattle.atspi_tree_model.proofs.Counts.{count-parts, count-put_in}
use Rattle.atspi_tree_model.proofs.Found.{count-has, has-count, not_there, find-passes, EachLabel-weaker, each_counted}
use Rattle.atspi_tree_model.proofs.RowRules.{shapes_sound}
use Rattle.atspi_tree_model.proofs.Kept.{count-move}
use Rattle.atspi_tree_model.proofs.Relabel.{Same, relabel-put_in, relabel-take_out, relabel-pick, has-relabel, count-relabel, relabel-relabel, relabel-change, relabel-learn, unseen-change}
use Rattle.atspi_tree_model.proofs.Lookup.{find-relabel}
use Rattle.atspi_faces.specs.declared.face.change.Change.{Change}
use Rattle.atspi_faces.specs.declared.face.change.Change.TheVariants as changes
use Rattle.atspi_faces.specs.face.Nodes.{Nodes, changed_at}
use Rattle.atspi_protocol.specs.whole.Whole.{Faces, as_text, as_columns, as_actions, contents_of, filled, whole, KnowsNo, KnowOnly, with_text, with_columns, with_actions, text_changed, faces_after}
use Rattle.atspi_protocol.specs.whole.Laws.{IsFollowed, StepsAreFollowed, ShapeIsKept}
use Rattle.atspi_protocol.proofs.OfWhole.Faces.{put_there, text_elsewhere, columns_elsewhere, actions_elsewhere, IsNot, without_elsewhere, without_none, without_those, changed_elsewhere, changed_none, changed_there}

pub shape_is_kept : ShapeIsKept
shape_is_kept f faces = relabel-relabel (filled faces) (λ (row : TreeRow). row.shape) f ∙ itself f
  where
    itself : (g : Forest ShapeRow) → relabel (λ (row : ShapeRow). row) g ≡ g
    itself nil = refl
    itself (tree a c r) = rw (itself c, itself r) refl

-- faces that agree on the nodes of a tree fill it alike
fills_alike : (faces other : Faces) (f : Forest ShapeRow) → EachLabel (λ (row : ShapeRow). contents_of other row.node ≡ contents_of faces row.node) f
    → relabel (filled other) f ≡ relabel (filled faces) f
fills_alike faces other nil h = refl
fills_alike faces other (tree a c r) h = rw (h.0, fills_alike faces other c h.1, fills_alike faces other r h.2) refl

same_node : (faces : Faces) (n : ℕ) → Same (filled faces) (is_node n) (is_shape n)
same_node faces n row = refl

-- nodes that are not in a tree after a change are those that were not in it
still_lacks : (f : Forest ShapeRow) (n : ℕ) (j : ShapeRow → ShapeRow) → ((row : ShapeRow) → (j row).node ≡ row.node) → (m : ℕ)
    → has (is_shape m) (change (is_shape n) j f) ≡ has (is_shape m) f
still_lacks f n j e m = has-relabel (λ row. cond (is_shape n row) (j row) row) (is_shape m) (is_shape m) (λ row. at row (is_shape n row)) f
  where
    at : (row : ShapeRow) (b : Bool) → is_shape m (cond b (j row) row) ≡ is_shape m row
    at row true = ap (λ k. k == m) (e row)
    at row false = refl

all_labels : {A : Type 0} (P : A → Type 0) → ((a : A) → P a) → (f : Forest A) → EachLabel P f
all_labels P h nil = tt
all_labels P h (tree a c r) = (h a, all_labels P h c, all_labels P h r)

has_count : (f : Forest ShapeRow) (m : ℕ) → has (is_shape m) f ≡ false → count (is_shape m) f ≡ 0
has_count f m h = at (count (is_shape m) f) refl
  where
    at : (k : ℕ) → count (is_shape m) f ≡ k → count (is_shape m) f ≡ 0
    at zero e = e
    at (suc k) e = let t = has-count (is_shape m) f (omega arith) in cc

-- steps that change the shape alone
module _ (f : Forest ShapeRow) (faces : Faces) (only : KnowOnly faces f) where
  shape_step : (n : ℕ) (j : ShapeRow → ShapeRow) (k : TreeRow → TreeRow) → ((row : ShapeRow) → k (filled faces row) ≡ filled faces (j row))
      → relabel (filled faces) (change (is_shape n) j f) ≡ change (is_node n) k (whole f faces)
  shape_step n j k e = sym (relabel-change (filled faces) (is_node n) (is_shape n) (same_node faces n) k j e f)

  shape_only : (n : ℕ) (j : ShapeRow → ShapeRow) → ((row : ShapeRow) → (j row).node ≡ row.node) → KnowOnly faces (change (is_shape n) j f)
  shape_only n j e m h = only m (sym (still_lacks f n j e m) ∙ h)

-- steps that change a text
changed_lacks : (nodes : Nodes) (n : ℕ) (what : Change) (q : ℕ) → get nodes q ≡ None → get (changed_at nodes n what) q ≡ None
changed_lacks nodes n what q h = at (q == n) refl
  where
    at : (b : Bool) → (q == n) ≡ b → get (changed_at nodes n what) q ≡ None
    at true e = let same : q ≡ n = eqb-true q n e in subst (λ m. get (changed_at nodes n what) m ≡ None) (sym same) (changed_none nodes n what (subst (λ m. get nodes m ≡ None) same h))
    at false e = changed_elsewhere nodes n what q (eqb-false q n e) ∙ h

text_only : (f : Forest ShapeRow) (faces : Faces) (n : ℕ) (what : Change) (j : ShapeRow → ShapeRow) → ((row : ShapeRow) → (j row).node ≡ row.node)
    → KnowOnly faces f → KnowOnly (text_changed n what faces) (change (is_shape n) j f)
text_only f faces n what j e only m h =
    let k = only m (sym (still_lacks f n j e m) ∙ h) in
    (changed_lacks faces.chars n what m k.0, k.1, k.2)

text_step : (f : Forest ShapeRow) (faces : Faces) (n : ℕ) (what : Change) (j : ShapeRow → ShapeRow) (k : TreeRow → TreeRow)
    → ((row : ShapeRow) → j row ≡ row) → ((row : ShapeRow) → row.node ≡ n → k (filled faces row) ≡ filled (text_changed n what faces) row)
    → relabel (filled (text_changed n what faces)) (change (is_shape n) j f) ≡ change (is_node n) k (whole f faces)
text_step f faces n what j k same e =
    unseen-change (filled other) (is_shape n) j (λ row. ap (filled other) (same row)) f
    ∙ sym (relabel-learn (filled faces) (filled other) (is_node n) (is_shape n) (same_node faces n) k f
    (all_labels (λ (row : ShapeRow). is_shape n row ≡ true → k (filled faces row) ≡ filled other row) (λ row h. e row (eqb-true row.node n h)) f)
    (λ row h. elsewhere row (eqb-false row.node n h)))
  where
    other : Faces
    other = text_changed n what faces

    elsewhere : (row : ShapeRow) → (row.node ≡ n → ⊥) → filled faces row ≡ filled (text_changed n what faces) row
    elsewhere row ne = rw (changed_elsewhere faces.chars n what row.node ne) refl

-- the text of the row that a step changes is what the face has
row_text : (f : Forest ShapeRow) (faces : Faces) (n : ℕ) (row : TreeRow) → find (is_node n) (whole f faces) ≡ Some row
    → row.contents.text ≡ as_text (get faces.chars n)
row_text f faces n row e = at (find (is_shape n) f) refl
  where
    mapped : option_map (filled faces) (find (is_shape n) f) ≡ Some row
    mapped = sym (find-relabel (filled faces) (is_node n) (is_shape n) (same_node faces n) f) ∙ e

    at : (o : Option ShapeRow) → find (is_shape n) f ≡ o → row.contents.text ≡ as_text (get faces.chars n)
    at None h = let x : option_map (filled faces) None ≡ Some row = subst (λ o. option_map (filled faces) o ≡ Some row) h mapped in cc
    at (Some r) h =
        let x : option_map (filled faces) (Some r) ≡ Some row = subst (λ o. option_map (filled faces) o ≡ Some row) h mapped in
        let same : filled faces r ≡ row = cc in
        let node : r.node ≡ n = eqb-true r.node n (find-passes (is_shape n) f r h).0 in
        sym (ap (λ (t : TreeRow). t.contents.text) same) ∙ ap (λ m. as_text (get faces.chars m)) node

inserted : (chars : Nodes) (n at : ℕ) (x : List ℕ) (o : Option FaceData) → get chars n ≡ o
    → Holds (λ (t : TextContents). at ≤ length t.characters) (as_text o)
    → on_some (after_insert at x) (as_text (get chars n)) ≡ as_text (get (changed_at chars n (changes.Insert at x)) n)
inserted chars n at x None h l = absurd l
inserted chars n at x (Some (Chars text caret marks)) h l =
    rw (changed_there chars n (changes.Insert at x) (Chars text caret marks) h) (rw h (rw (le-leb at (length text) l) refl))
inserted chars n at x (Some (Grid columns)) h l = absurd l
inserted chars n at x (Some (Deeds names)) h l = absurd l

deleted : (chars : Nodes) (n at : ℕ) (x : List ℕ) (o : Option FaceData) → get chars n ≡ o
    → Holds (λ (t : TextContents). (at + length x ≤ length t.characters) × (take (length x) (drop at t.characters) ≡ x)) (as_text o)
    → on_some (after_delete at x) (as_text (get chars n)) ≡ as_text (get (changed_at chars n (changes.Delete at (length x))) n)
deleted chars n at x None h l = absurd l
deleted chars n at x (Some (Chars text caret marks)) h l =
    rw (changed_there chars n (changes.Delete at (length x)) (Chars text caret marks) h) (rw h (rw (le-leb (at + length x) (length text) l.0) refl))
deleted chars n at x (Some (Grid columns)) h l = absurd l
deleted chars n at x (Some (Deeds names)) h l = absurd l

caret_set : (chars : Nodes) (n at : ℕ) (o : Option FaceData) → get chars n ≡ o
    → on_some (λ (t : TextContents). record t { caret = at }) (as_text (get chars n)) ≡ as_text (get (changed_at chars n (changes.Caret at)) n)
caret_set chars n at None h = rw (changed_none chars n (changes.Caret at) h) (rw h refl)
caret_set chars n at (Some (Chars text caret marks)) h = rw (changed_there chars n (changes.Caret at) (Chars text caret marks) h) (rw h refl)
caret_set chars n at (Some (Grid columns)) h = rw (changed_there chars n (changes.Caret at) (Grid columns) h) (rw h refl)
caret_set chars n at (Some (Deeds names)) h = rw (changed_there chars n (changes.Caret at) (Deeds names) h) (rw h refl)

marks_set : (chars : Nodes) (n : ℕ) (marks : List (ℕ × ℕ)) (o : Option FaceData) → get chars n ≡ o
    → on_some (λ (t : TextContents). record t { selections = marks }) (as_text (get chars n)) ≡ as_text (get (changed_at chars n (changes.Marks marks)) n)
marks_set chars n marks None h = rw (changed_none chars n (changes.Marks marks) h) (rw h refl)
marks_set chars n marks (Some (Chars text caret old)) h = rw (changed_there chars n (changes.Marks marks) (Chars text caret old) h) (rw h refl)
marks_set chars n marks (Some (Grid columns)) h = rw (changed_there chars n (changes.Marks marks) (Grid columns) h) (rw h refl)
marks_set chars n marks (Some (Deeds names)) h = rw (changed_there chars n (changes.Marks marks) (Deeds names) h) (rw h refl)

-- a row with another text
retexted : (faces : Faces) (what : Change) (w : TextContents → TextContents) (row : ShapeRow) (n : ℕ) → row.node ≡ n
    → on_some w (as_text (get faces.chars n)) ≡ as_text (get (changed_at faces.chars n what) n)
    → ◌≡◌ {A = TreeRow} (record { shape = row; contents = record (contents_of faces row.node) { text = on_some w (as_text (get faces.chars row.node)) } }) (filled (text_changed n what faces) row)
retexted faces what w row n e h =
    ap (λ t. record { shape = row; contents = record (contents_of faces row.node) { text = t } })
    (subst (λ m. on_some w (as_text (get faces.chars m)) ≡ as_text (get (changed_at faces.chars n what) m)) (sym e) h)

-- an addition
new_text : (chars : Nodes) (n : ℕ) (text : Option (List ℕ)) → get chars n ≡ None → as_text (get (with_text n text chars) n) ≡ first_text text
new_text chars n None h = rw h refl
new_text chars n (Some text) h = rw (put_there chars n (Chars text 0 [])) refl

new_columns : (grid : Nodes) (n : ℕ) (columns : Option ℕ) → get grid n ≡ None → as_columns (get (with_columns n columns grid) n) ≡ columns
new_columns grid n None h = rw h refl
new_columns grid n (Some columns) h = rw (put_there grid n (Grid columns)) refl

new_actions : (deeds : Nodes) (n : ℕ) (names : List (List ℕ)) → get deeds n ≡ None → as_actions (get (with_actions n names deeds) n) ≡ names
new_actions deeds n [] h = rw h refl
new_actions deeds n (name ∷ names) h = rw (put_there deeds n (Deeds (name ∷ names))) refl

new_row : (faces : Faces) (f : Forest ShapeRow) (n p i : ℕ) (seed : Seed) → KnowsNo faces n
    → filled (faces_after f (Add n p i seed) faces) (first_shape n seed) ≡ rows.first n seed
new_row faces f n p i seed h =
    rw (new_text faces.chars n seed.text h.0, new_columns faces.grid n seed.columns h.1, new_actions faces.deeds n seed.actions h.2) refl

not_in_at : (a : ShapeRow) (c r : Forest ShapeRow) (n : ℕ) (b : Bool) → (a.node == n) ≡ b → count (is_shape n) (tree a c r) ≡ 0
    → (count (is_shape n) c ≡ 0 → EachLabel (λ (row : ShapeRow). row.node ≡ n → ⊥) c)
    → (count (is_shape n) r ≡ 0 → EachLabel (λ (row : ShapeRow). row.node ≡ n → ⊥) r)
    → EachLabel (λ (row : ShapeRow). row.node ≡ n → ⊥) (tree a c r)
not_in_at a c r n true e h hc hr = let one : cond {A = ℕ} (a.node == n) 1 0 ≡ 1 = ap (λ b. cond {A = ℕ} b 1 0) e in absurd (omega arith)
not_in_at a c r n false e h hc hr = (eqb-false a.node n e, hc (omega arith), hr (omega arith))

not_in : (f : Forest ShapeRow) (n : ℕ) → count (is_shape n) f ≡ 0 → EachLabel (λ (row : ShapeRow). row.node ≡ n → ⊥) f
not_in nil n h = tt
not_in (tree a c r) n h = not_in_at a c r n (a.node == n) refl h (not_in c n) (not_in r n)

add_elsewhere : (faces : Faces) (f : Forest ShapeRow) (n p i : ℕ) (seed : Seed) (q : ℕ) → (q ≡ n → ⊥)
    → contents_of (faces_after f (Add n p i seed) faces) q ≡ contents_of faces q
add_elsewhere faces f n p i seed q ne =
    rw (text_elsewhere n seed.text faces.chars q ne, columns_elsewhere n seed.columns faces.grid q ne, actions_elsewhere n seed.actions faces.deeds q ne) refl

add_followed : (f : Forest ShapeRow) (faces : Faces) (k n p i : ℕ) (seed : Seed) → KnowOnly faces f → IsTree rows (whole f faces) k
    → Adds rows (whole f faces) k n p i seed → IsFollowed f faces (Add n p i seed)
add_followed f faces k n p i seed only t a = record { tree = tree_after; only = only_after }
  where
    other : Faces
    other = faces_after f (Add n p i seed) faces

    counted : (m : ℕ) → count (is_node m) (whole f faces) ≡ count (is_shape m) f
    counted m = count-relabel (filled faces) (is_node m) (is_shape m) (same_node faces m) f

    none : count (is_shape n) f ≡ 0
    none = sym (counted n) ∙ t.numbered n (let l = a.next in omega arith)

    unknown : KnowsNo faces n
    unknown = only n (not_there (is_shape n) f none)

    alike : relabel (filled other) f ≡ relabel (filled faces) f
    alike =
        fills_alike faces other f
        (EachLabel-weaker (λ (row : ShapeRow). row.node ≡ n → ⊥) (λ (row : ShapeRow). contents_of other row.node ≡ contents_of faces row.node)
        (λ row ne. add_elsewhere faces f n p i seed row.node ne) f (not_in f n none))

    tree_after : relabel (filled other) (put_in (is_shape p) (Some i) (tree (first_shape n seed) nil nil) f)
        ≡ put_in (is_node p) (Some i) (tree (rows.first n seed) nil nil) (whole f faces)
    tree_after =
        sym (relabel-put_in (filled other) (is_node p) (is_shape p) (same_node other p) (Some i) (tree (first_shape n seed) nil nil) f)
        ∙ rw (new_row faces f n p i seed unknown, alike) refl

    only_after : KnowOnly other (put_in (is_shape p) (Some i) (tree (first_shape n seed) nil nil) f)
    only_after m h =
        let z = has_count (put_in (is_shape p) (Some i) (tree (first_shape n seed) nil nil) f) m h in
        let c = count-put_in (is_shape m) (is_shape p) (Some i) (tree (first_shape n seed) nil nil) f in
        let up = count-has (is_shape p) f (sym (has-relabel (filled faces) (is_node p) (is_shape p) (same_node faces p) f) ∙ a.parent) in
        let out : count (is_shape m) f ≡ 0 = omega arith in
        let k = only m (not_there (is_shape m) f out) in
        let ne : m ≡ n → ⊥ = (λ e. twice m e (count (is_shape p) f) up (let y = c in let w = z in omega arith)) in
        (text_elsewhere n seed.text faces.chars m ne ∙ k.0, columns_elsewhere n seed.columns faces.grid m ne ∙ k.1, actions_elsewhere n seed.actions faces.deeds m ne ∙ k.2)
      where
        twice : (m : ℕ) → m ≡ n → (parents : ℕ) → 1 ≤ parents → parents * count (is_shape m) (tree (first_shape n seed) nil nil) ≡ 0 → ⊥
        twice m e parents up z =
            let one : count (is_shape m) (tree (first_shape n seed) nil nil) ≡ 1 = rw (eq-eqb n m (sym e)) refl in
            let w : parents * 1 ≡ 0 = subst (λ x. parents * x ≡ 0) one z in
            absurd (omega arith)

-- a removal
is_not_append : (q : ℕ) (ms ns : List ℕ) → IsNot q ms → IsNot q ns → IsNot q (ms ++ ns)
is_not_append q [] ns h g = g
is_not_append q (m ∷ ms) ns h g = (h.0, is_not_append q ms ns h.1 g)

not_left : (q : ℕ) (ms ns : List ℕ) → IsNot q (ms ++ ns) → IsNot q ms
not_left q [] ns h = tt
not_left q (m ∷ ms) ns h = (h.0, not_left q ms ns h.1)

not_right : (q : ℕ) (ms ns : List ℕ) → IsNot q (ms ++ ns) → IsNot q ns
not_right q [] ns h = h
not_right q (m ∷ ms) ns h = not_right q ms ns h.1

abbrev numbers : Forest ShapeRow → List ℕ
numbers f = map (λ (row : ShapeRow). row.node) (labels f)

numbers_parts : (c r : Forest ShapeRow) → map (λ (row : ShapeRow). row.node) (labels c ++ labels r) ≡ numbers c ++ numbers r
numbers_parts c r = map-append (λ (row : ShapeRow). row.node) (labels c) (labels r)

none_at : (q : ℕ) (a : ShapeRow) (c r : Forest ShapeRow) (b : Bool) → (a.node == q) ≡ b → count (is_shape q) (tree a c r) ≡ 0
    → (count (is_shape q) c ≡ 0 → IsNot q (numbers c)) → (count (is_shape q) r ≡ 0 → IsNot q (numbers r)) → IsNot q (numbers (tree a c r))
none_at q a c r true e h hc hr = let one : cond {A = ℕ} (a.node == q) 1 0 ≡ 1 = ap (λ b. cond {A = ℕ} b 1 0) e in absurd (omega arith)
none_at q a c r false e h hc hr =
    (λ same. eqb-false a.node q e (sym same), subst (IsNot q) (sym (numbers_parts c r)) (is_not_append q (numbers c) (numbers r) (hc (omega arith)) (hr (omega arith))))

none_among : (q : ℕ) (f : Forest ShapeRow) → count (is_shape q) f ≡ 0 → IsNot q (numbers f)
none_among q nil h = tt
none_among q (tree a c r) h = none_at q a c r (a.node == q) refl h (none_among q c) (none_among q r)

among_at : (q : ℕ) (a : ShapeRow) (c r : Forest ShapeRow) (b : Bool) → (a.node == q) ≡ b → (q ≡ a.node → ⊥)
    → count (is_shape q) c ≡ 0 → count (is_shape q) r ≡ 0 → count (is_shape q) (tree a c r) ≡ 0
among_at q a c r true e ne x y = absurd (ne (sym (eqb-true a.node q e)))
among_at q a c r false e ne x y = rw (e, x, y) refl

among_none : (q : ℕ) (f : Forest ShapeRow) → IsNot q (numbers f) → count (is_shape q) f ≡ 0
among_none q nil h = refl
among_none q (tree a c r) h =
    let rest : IsNot q (numbers c ++ numbers r) = subst (IsNot q) (numbers_parts c r) h.1 in
    among_at q a c r (a.node == q) refl h.0 (among_none q c (not_left q (numbers c) (numbers r) rest)) (among_none q r (not_right q (numbers c) (numbers r) rest))

remove_followed : (f : Forest ShapeRow) (faces : Faces) (k n : ℕ) → KnowOnly faces f → IsTree rows (whole f faces) k → IsFollowed f faces (Remove n)
remove_followed f faces k n only t = record { tree = tree_after; only = only_after }
  where
    other : Faces
    other = faces_after f (Remove n) faces

    once : (m : ℕ) → count (is_shape m) f ≤ 1
    once m = let c = count-relabel (filled faces) (is_node m) (is_shape m) (same_node faces m) f in let l = t.once m in omega arith

    gone : in_subtree rows n (whole f faces) ≡ in_subtree shapes n f
    gone = λ i m. (ap (has (is_node m)) (relabel-pick (filled faces) (is_node n) (is_shape n) (same_node faces n) f) ∙ has-relabel (filled faces) (is_node m) (is_shape m) (same_node faces m) (pick (is_shape n) f)) i

    stays : (q : ℕ) → IsNot q (numbers (pick (is_shape n) f)) → contents_of other q ≡ contents_of faces q
    stays q h =
        let ns = numbers (pick (is_shape n) f) in
        rw (without_elsewhere ns faces.chars q h, without_elsewhere ns faces.grid q h, without_elsewhere ns faces.deeds q h) refl

    left : EachLabel (λ (row : ShapeRow). contents_of other row.node ≡ contents_of faces row.node) (take_out (is_shape n) f)
    left =
        EachLabel-weaker (λ (row : ShapeRow). 1 ≤ count (is_shape row.node) (take_out (is_shape n) f)) (λ (row : ShapeRow). contents_of other row.node ≡ contents_of faces row.node)
        (λ row l. stays row.node (none_among row.node (pick (is_shape n) f) (let c = count-parts (is_shape row.node) (is_shape n) f in let o = once row.node in omega arith)))
        (take_out (is_shape n) f)
        (each_counted (λ (a b : ShapeRow). is_shape a.node b) (λ a. eq-eqb a.node a.node refl) (take_out (is_shape n) f) (take_out (is_shape n) f) (λ p. omega arith))

    forgotten : (g : Forest ShapeRow) → EachLabel (λ (row : ShapeRow). contents_of other row.node ≡ contents_of faces row.node) g
        → relabel (λ (row : ShapeRow). filled other (shapes.forgetting (in_subtree shapes n f) row)) g
        ≡ relabel (λ (row : ShapeRow). rows.forgetting (in_subtree shapes n f) (filled faces row)) g
    forgotten nil h = refl
    forgotten (tree a c r) h = rw (h.0, forgotten c h.1, forgotten r h.2) refl

    tree_after : relabel (filled other) (relabel (shapes.forgetting (in_subtree shapes n f)) (take_out (is_shape n) f))
        ≡ relabel (rows.forgetting (in_subtree rows n (whole f faces))) (take_out (is_node n) (whole f faces))
    tree_after =
        relabel-relabel (shapes.forgetting (in_subtree shapes n f)) (filled other) (take_out (is_shape n) f)
        ∙ forgotten (take_out (is_shape n) f) left
        ∙ sym (relabel-relabel (filled faces) (rows.forgetting (in_subtree shapes n f)) (take_out (is_shape n) f))
        ∙ ap (relabel (rows.forgetting (in_subtree shapes n f))) (sym (relabel-take_out (filled faces) (is_node n) (is_shape n) (same_node faces n) f))
        ∙ ap (λ g. relabel (rows.forgetting g) (take_out (is_node n) (whole f faces))) (sym gone)

    closed : (m : ℕ) → count (is_shape m) (take_out (is_shape n) f) ≡ 0 → KnowsNo other m
    closed m z = at (count (is_shape m) (pick (is_shape n) f)) refl
      where
        ns : List ℕ
        ns = numbers (pick (is_shape n) f)

        at : (c : ℕ) → count (is_shape m) (pick (is_shape n) f) ≡ c → KnowsNo other m
        at zero e =
            let p = count-parts (is_shape m) (is_shape n) f in
            let o = only m (not_there (is_shape m) f (omega arith)) in
            (without_none ns faces.chars m o.0, without_none ns faces.grid m o.1, without_none ns faces.deeds m o.2)
        at (suc c) e =
            let among : IsNot m ns → ⊥ = (λ h. let y = among_none m (pick (is_shape n) f) h in absurd (omega arith)) in
            (without_those ns faces.chars m among, without_those ns faces.grid m among, without_those ns faces.deeds m among)

    only_after : KnowOnly other (relabel (shapes.forgetting (in_subtree shapes n f)) (take_out (is_shape n) f))
    only_after m h =
        closed m (has_count (take_out (is_shape n) f) m (sym (has-relabel (shapes.forgetting (in_subtree shapes n f)) (is_shape m) (is_shape m) (λ row. refl) (take_out (is_shape n) f)) ∙ h))

-- a move
move_followed : (f : Forest ShapeRow) (faces : Faces) (k n p i : ℕ) → KnowOnly faces f → IsTree rows (whole f faces) k → Moves rows (whole f faces) n p i
    → IsFollowed f faces (Move n p i)
move_followed f faces k n p i only t a = record { tree = tree_after; only = only_after }
  where
    once : (m : ℕ) → count (is_shape m) f ≤ 1
    once m = let c = count-relabel (filled faces) (is_node m) (is_shape m) (same_node faces m) f in let l = t.once m in omega arith

    no_cycle : has (is_shape p) (take_out (is_shape n) f) ≡ true
    no_cycle =
        sym (ap (has (is_node p)) (relabel-take_out (filled faces) (is_node n) (is_shape n) (same_node faces n) f)
        ∙ has-relabel (filled faces) (is_node p) (is_shape p) (same_node faces p) (take_out (is_shape n) f))
        ∙ a.no_cycle

    tree_after : relabel (filled faces) (put_in (is_shape p) (Some i) (pick (is_shape n) f) (take_out (is_shape n) f))
        ≡ put_in (is_node p) (Some i) (pick (is_node n) (whole f faces)) (take_out (is_node n) (whole f faces))
    tree_after =
        sym (relabel-put_in (filled faces) (is_node p) (is_shape p) (same_node faces p) (Some i) (pick (is_shape n) f) (take_out (is_shape n) f))
        ∙ rw (relabel-pick (filled faces) (is_node n) (is_shape n) (same_node faces n) f, relabel-take_out (filled faces) (is_node n) (is_shape n) (same_node faces n) f) refl

    only_after : KnowOnly faces (put_in (is_shape p) (Some i) (pick (is_shape n) f) (take_out (is_shape n) f))
    only_after m h =
        let z = has_count (put_in (is_shape p) (Some i) (pick (is_shape n) f) (take_out (is_shape n) f)) m h in
        let c = count-move shapes shapes_sound f n p i once no_cycle (is_shape m) in
        only m (not_there (is_shape m) f (sym c ∙ z))

pub steps_are_followed : StepsAreFollowed
steps_are_followed f faces k (Add n p i seed) only t a = add_followed f faces k n p i seed only t a
steps_are_followed f faces k (Remove n) only t a = remove_followed f faces k n only t
steps_are_followed f faces k (Move n p i) only t a = move_followed f faces k n p i only t a
steps_are_followed f faces k (SetName n x) only t a =
    record { tree = shape_step f faces only n (shapes.changed (SetName n x)) (rows.changed (SetName n x)) (λ row. refl); only = shape_only f faces only n (shapes.changed (SetName n x)) (λ row. refl) }
steps_are_followed f faces k (SetDescription n x) only t a =
    record { tree = shape_step f faces only n (shapes.changed (SetDescription n x)) (rows.changed (SetDescription n x)) (λ row. refl); only = shape_only f faces only n (shapes.changed (SetDescription n x)) (λ row. refl) }
steps_are_followed f faces k (SetRole n x) only t a =
    record { tree = shape_step f faces only n (shapes.changed (SetRole n x)) (rows.changed (SetRole n x)) (λ row. refl); only = shape_only f faces only n (shapes.changed (SetRole n x)) (λ row. refl) }
steps_are_followed f faces k (SetState n s on) only t a =
    record { tree = shape_step f faces only n (shapes.changed (SetState n s on)) (rows.changed (SetState n s on)) (λ row. refl); only = shape_only f faces only n (shapes.changed (SetState n s on)) (λ row. refl) }
steps_are_followed f faces k (Relate n kind targets) only t a =
    record { tree = shape_step f faces only n (shapes.changed (Relate n kind targets)) (rows.changed (Relate n kind targets)) (λ row. refl); only = shape_only f faces only n (shapes.changed (Relate n kind targets)) (λ row. refl) }
steps_are_followed f faces k (Insert n at x) only t a =
    let l = subst (Holds (λ (t : TextContents). at ≤ length t.characters)) (row_text f faces n a.row a.there) a.allowed.1 in
    record {
      tree = text_step f faces n (changes.Insert at x) (shapes.changed (Insert n at x)) (rows.changed (Insert n at x)) (λ row. refl)
          (λ row e. retexted faces (changes.Insert at x) (after_insert at x) row n e (inserted faces.chars n at x (get faces.chars n) refl l));
      only = text_only f faces n (changes.Insert at x) (shapes.changed (Insert n at x)) (λ row. refl) only;
    }
steps_are_followed f faces k (Delete n at x) only t a =
    let l = subst (Holds (λ (t : TextContents). (at + length x ≤ length t.characters) × (take (length x) (drop at t.characters) ≡ x))) (row_text f faces n a.row a.there) a.allowed.1 in
    record {
      tree = text_step f faces n (changes.Delete at (length x)) (shapes.changed (Delete n at x)) (rows.changed (Delete n at x)) (λ row. refl)
          (λ row e. retexted faces (changes.Delete at (length x)) (after_delete at x) row n e (deleted faces.chars n at x (get faces.chars n) refl l));
      only = text_only f faces n (changes.Delete at (length x)) (shapes.changed (Delete n at x)) (λ row. refl) only;
    }
steps_are_followed f faces k (Caret n at) only t a =
    record {
      tree = text_step f faces n (changes.Caret at) (shapes.changed (Caret n at)) (rows.changed (Caret n at)) (λ row. refl)
          (λ row e. retexted faces (changes.Caret at) (λ (t : TextContents). record t { caret = at }) row n e (caret_set faces.chars n at (get faces.chars n) refl));
      only = text_only f faces n (changes.Caret at) (shapes.changed (Caret n at)) (λ row. refl) only;
    }
steps_are_followed f faces k (TextSelect n marks) only t a =
    record {
      tree = text_step f faces n (changes.Marks marks) (shapes.changed (TextSelect n marks)) (rows.changed (TextSelect n marks)) (λ row. refl)
          (λ row e. retexted faces (changes.Marks marks) (λ (t : TextContents). record t { selections = marks }) row n e (marks_set faces.chars n marks (get faces.chars n) refl));
      only = text_only f faces n (changes.Marks marks) (shapes.changed (TextSelect n marks)) (λ row. refl) only;
    }
