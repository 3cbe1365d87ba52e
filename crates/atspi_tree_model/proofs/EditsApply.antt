-- The steps of an edit that is not refused apply, each to the tree after those before it.
use Rattle.std.proofs.Common.{◌≡◌, ℕ, zero, suc, ◌+◌, ◌-◌, ◌<◌, ◌≤◌, ◌==◌, Bool, true, false, cond, not, ◌&&◌, ◌||◌, Option, Some, None, List, [], ◌∷◌, ◌++◌, refl, sym, ap, ◌∙◌, subst, arith, length-append, length-take, length-drop}
use Rattle.std.specs.Prelude.{Ok, filter, take, drop, length, is_some, nat_lt, nat_le, bytes_eq}
use Rattle.std.specs.Option.{option_map}
use Rattle.std.proofs.lemmas.Bool.{ltb-false, leb-false, eqb-false, eq-eqb, or_parts}
use Rattle.atspi_tree_model.specs.declared.contents.FaceData.TheVariants.{Deeds}
use Rattle.atspi_tree_model.specs.declared.step.Seed.{Seed}
use Rattle.atspi_tree_model.specs.declared.step.Step.{Step}
use Rattle.atspi_tree_model.specs.declared.step.Step.TheVariants.{SetName, SetDescription, SetRole, Delete, TextSelect, Move as MoveStep, Insert as InsertStep, Caret as CaretStep, Relate as RelateStep}
use Rattle.atspi_tree_model.specs.declared.edit.Edit.{Edit}
use Rattle.atspi_tree_model.specs.declared.edit.Edit.TheVariants.{Insert, Remove, Move, Name, Describe, Role, State, Focus, Put, Keys, Cut, Caret, Mark, Unmark, Select, Deselect, Press, Relate, Unrelate}
use Rattle.atspi_tree_model.specs.declared.edit.EditFault.{EditFault}
use Rattle.atspi_tree_model.specs.declared.edit.EditFault.TheVariants.{BadIndex, Full, TextFull}
use Rattle.atspi_tree_model.specs.Forest.{Forest, count, has, width, take_out, pick, find, tops, children_at}
use Rattle.atspi_tree_model.specs.States.{multiselectable}
use Rattle.atspi_tree_model.specs.Row.{TextContents, TreeRow, HoldsIfThere, on_some, IsText, IsColumns}
use Rattle.atspi_tree_model.specs.RowRules.{rows, shapes, first_text, after_insert, after_delete}
use Rattle.atspi_tree_model.specs.Tree.{is_shape, is_node, shape_of, in_subtree, after, seat_of, HasTargets, IsTree, Adds, Moves, Changes, AllApply}
use Rattle.atspi_tree_model.specs.Edits.{known_text, known_actions, lacks_node, lacks_kind, children_of, is_long_name, is_long_text, text_length, bad_columns, is_full, refusals, first_fault, node_has_state, switched, focusing, putting, typing, cutting, unselecting, selecting, others, pressing, node_targets, is_among, is_seat, made_steps, steps_unless, text_contents, action_contents, contents_read, steps_of_tree, IsEdit}
use Rattle.atspi_tree_model.proofs.Counts.{count-parts}
use Rattle.atspi_tree_model.proofs.Relabel.{has-relabel}
use Rattle.atspi_tree_model.proofs.Found.{count-has, has-count}
use Rattle.atspi_tree_model.proofs.RowRules.{rows_sound}
use Rattle.atspi_tree_model.proofs.Kept.{changed_is_tree}
use Rattle.atspi_tree_model.proofs.Lookup.{each-find, find-relabel, find-change, test_found, each_take, each_drop, each_append, each_filter}
use Rattle.atspi_tree_model.proofs.ShapeOf.{shape, same_shape, shape-all, shape-take_out, shape-children, shape-width, shape-seat, shape-subtree}
use Rattle.atspi_tree_model.proofs.EditLemmas.{none_of, there, found, kind_there, lawful_row, text_there, text_known, with_text, inserted_text, deleted_text, caret_text, length-insert, states_apply, states_append, switch_states, focus_states, children_there, unselect_states, select_states, unless_multi, press_states, made_unless, short_name, some_targets}

-- the steps on a text, in a row that was found
module _ (f : Forest TreeRow) (k n : ℕ) (tr : IsTree rows f k) (row : TreeRow) (e : find (is_node n) f ≡ Some row) (text : row.shape.kinds.text ≡ true) (t : TextContents) (et : row.contents.text ≡ Some t) where
  l : rows.IsLawful row
  l = lawful_row f k n row tr e

  insert_changes : (at : ℕ) (x : List ℕ) → IsText t → at ≤ length t.characters
      → length t.characters + length x ≤ 1048576 → Changes rows f (InsertStep n at x)
  insert_changes at x lt h s = record {
    row = row;
    there = e;
    allowed = (text, rw et h);
    lawful = (l.0, with_text row.shape.kinds row.contents (after_insert at x) t l.1 et (inserted_text t at x lt h s));
    targets = tt;
  }

  caret_changes : (at : ℕ) → IsText t → at ≤ length t.characters → Changes rows f (CaretStep n at)
  caret_changes at lt h = record {
    row = row;
    there = e;
    allowed = (text, rw et tt);
    lawful = (l.0, with_text row.shape.kinds row.contents (λ (t : TextContents). record t { caret = at }) t l.1 et (caret_text t at lt h));
    targets = tt;
  }

  delete_changes : (at : ℕ) (x : List ℕ) → IsText t → at + length x ≤ length t.characters
      → take (length x) (drop at t.characters) ≡ x → t.caret ≤ length t.characters - length x
      → Changes rows f (Delete n at x)
  delete_changes at x lt h s c = record {
    row = row;
    there = e;
    allowed = (text, rw et (h, s));
    lawful = (l.0, with_text row.shape.kinds row.contents (after_delete at x) t l.1 et (deleted_text t at x lt h c));
    targets = tt;
  }

  select_changes : (marks : List (ℕ × ℕ)) → IsText (record t { selections = marks })
      → Changes rows f (TextSelect n marks)
  select_changes marks lt = record {
    row = row;
    there = e;
    allowed = (text, rw et tt);
    lawful = (l.0, with_text row.shape.kinds row.contents (λ (t : TextContents). record t { selections = marks }) t l.1 et lt);
    targets = tt;
  }

-- a text is put in, and the caret goes on
put_applies : (f : Forest TreeRow) (k n : ℕ) → IsTree rows f k → (row : TreeRow) → find (is_node n) f ≡ Some row
    → row.shape.kinds.text ≡ true → (t : TextContents) → row.contents.text ≡ Some t → IsText t
    → (at : ℕ) (x : List ℕ) → at ≤ length t.characters → length t.characters + length x ≤ 1048576 → (b d : Bool)
    → AllApply rows f k (cond b [] (InsertStep n at x ∷ cond d (CaretStep n (t.caret + length x) ∷ []) []))
put_applies f k n tr row e text t et lt at x h s true d = tt
put_applies f k n tr row e text t et lt at x h s false false = (insert_changes f k n tr row e text t et at x lt h s, tt)
put_applies f k n tr row e text t et lt at x h s false true =
    let c = insert_changes f k n tr row e text t et at x lt h s in
    let g = after rows f (InsertStep n at x) in
    let tr' = changed_is_tree rows rows_sound f k (InsertStep n at x) tr c in
    let e' : find (is_node n) g ≡ Some (rows.changed (InsertStep n at x) row) = find-change (is_node n) (rows.changed (InsertStep n at x)) (λ a. refl) f row e in
    let et' : on_some (after_insert at x) row.contents.text ≡ Some (after_insert at x t) = rw et refl in
    let m : t.caret ≤ length t.characters = lt.caret in
    let w = length-insert at x t.characters h in
    (c, (caret_changes g k n tr' (rows.changed (InsertStep n at x) row) e' text (after_insert at x t) et' (t.caret + length x) (inserted_text t at x lt h s) (omega arith), tt))

-- the caret leaves what is cut, and that is cut
cut_applies : (f : Forest TreeRow) (k n : ℕ) → IsTree rows f k → (row : TreeRow) → find (is_node n) f ≡ Some row
    → row.shape.kinds.text ≡ true → (t : TextContents) → row.contents.text ≡ Some t → IsText t
    → (from to : ℕ) → from ≤ to → to ≤ length t.characters → AllApply rows f k (cutting n from to t)
cut_applies f k n tr row e text t et lt from to h s = at (from == to) (nat_lt from t.caret) refl
  where
    x : List ℕ
    x = take (to - from) (drop from t.characters)

    long : length x ≡ to - from
    long = length-take (to - from) (drop from t.characters) ∙ (let y = length-drop from t.characters in omega arith)

    stands : take (length x) (drop from t.characters) ≡ x
    stands = ap (λ m. take m (drop from t.characters)) long

    in_range : from + length x ≤ length t.characters
    in_range = let y = long in omega arith

    c' : ℕ
    c' = cond (nat_le t.caret to) from (t.caret - (to - from))

    moved_caret : c' ≤ length t.characters - length x
    moved_caret = at_caret (nat_le t.caret to) refl
      where
        at_caret : (b : Bool) → nat_le t.caret to ≡ b
            → cond b from (t.caret - (to - from)) ≤ length t.characters - length x
        at_caret true q = let y = long in omega arith
        at_caret false q = let y = long in let z = lt.caret in let w = leb-false t.caret to q in omega arith

    kept_caret : nat_lt from t.caret ≡ false → t.caret ≤ length t.characters - length x
    kept_caret q = let y = long in let w = ltb-false from t.caret q in omega arith

    at : (b d : Bool) → nat_lt from t.caret ≡ d
        → AllApply rows f k (cond b [] (cond d (CaretStep n c' ∷ []) [] ++ Delete n from x ∷ []))
    at true d q = tt
    at false false q = (delete_changes f k n tr row e text t et from x lt in_range stands (kept_caret q), tt)
    at false true q =
        let w = moved_caret in
        let fits : c' ≤ length t.characters = omega arith in
        let c = caret_changes f k n tr row e text t et c' lt fits in
        let g = after rows f (CaretStep n c') in
        let tr' = changed_is_tree rows rows_sound f k (CaretStep n c') tr c in
        let e' : find (is_node n) g ≡ Some (rows.changed (CaretStep n c') row) = find-change (is_node n) (rows.changed (CaretStep n c')) (λ a. refl) f row e in
        let t' : TextContents = record t { caret = c' } in
        let et' : on_some (λ (t : TextContents). record t { caret = c' }) row.contents.text ≡ Some t' = rw et refl in
        (c, (delete_changes g k n tr' (rows.changed (CaretStep n c') row) e' text t' et' from x (caret_text t c' lt fits) in_range stands w, tt))

-- what is known of an edit of a text that is not refused
record Editing (f : Forest TreeRow) (k n : ℕ) : Type 0 where
  row : TreeRow
  there : find (is_node n) f ≡ Some row
  text : row.shape.kinds.text ≡ true
  contents : TextContents
  here : row.contents.text ≡ Some contents
  lawful : IsText contents
  known : known_text (text_contents (find (is_node n) f)) ≡ contents

editing : (f : Forest TreeRow) (k n : ℕ) → IsTree rows f k → lacks_node (shape_of f) n ≡ false
    → lacks_kind (λ z. z.text) (shape_of f) n ≡ false → Editing f k n
editing f k n tr h l =
    let o = found f n h in
    let text = kind_there f k n o.0 (λ z. z.text) tr h o.1 l in
    let t = text_there o.0 (lawful_row f k n o.0 tr o.1) text in
    record { row = o.0; there = o.1; text = text; contents = t.0; here = t.1; lawful = t.2; known = text_known f n o.0 t.0 o.1 t.1 }

-- a text that can be edited is a text
editable_text : (f : Forest TreeRow) (k n : ℕ) → IsTree rows f k → lacks_node (shape_of f) n ≡ false
    → lacks_kind (λ z. z.editable) (shape_of f) n ≡ false → lacks_kind (λ z. z.text) (shape_of f) n ≡ false
editable_text f k n tr h l =
    let o = found f n h in
    let w = (lawful_row f k n o.0 tr o.1).0.editable (kind_there f k n o.0 (λ z. z.editable) tr h o.1 l) in
    let same = test_found (is_node n) (λ r. r.shape.kinds.text) f o.0 (tr.once n) (there f n h) o.1 in
    ap not (has-relabel shape (λ r. is_shape n r && r.kinds.text) (λ r. is_node n r && r.shape.kinds.text) (λ r. refl) f ∙ (same ∙ w))

-- an addition
add_applies : (f : Forest TreeRow) (k p i : ℕ) (seed : Seed) → IsTree rows f k → IsEdit (Insert p i seed)
    → first_fault (refusals (shape_of f) k (Deeds []) (Insert p i seed)) ≡ None → Adds rows f k (suc k) p i seed
add_applies f k p i seed tr w h = record {
  next = refl;
  parent = there f p a.0;
  index = (let z = ltb-false (width (children_of (shape_of f) p)) i o.0 in let y : width (children_of (shape_of f) p) ≡ width (children_at (is_node p) f) = rw (shape-children p f) (shape-width (children_at (is_node p) f)) in omega arith);
  room = (let z = leb-false 8192 (count (λ row. true) (shape_of f)) u.0 in let y = shape-all f in omega arith);
  room_ever = leb-false 4294967295 k u.1;
  lawful = (
    record { name = short_name seed.name v.0; description = omega arith; editable = w.1 },
    record { text = has_text seed.text; lawful_text = first_lawful seed.text v.1; table = refl; lawful_columns = columns seed.columns o.1; action = refl; few_actions = w.0 },
  );
}
  where
    a : (lacks_node (shape_of f) p ≡ false) × (first_fault ((nat_lt (width (children_of (shape_of f) p)) i || bad_columns seed.columns, BadIndex) ∷ (is_full (shape_of f) k, Full) ∷ (is_long_name seed.name || is_long_text (text_length seed.text), TextFull) ∷ []) ≡ None)
    a = none_of _ _ _ h

    b : (nat_lt (width (children_of (shape_of f) p)) i || bad_columns seed.columns ≡ false) × (first_fault ((is_full (shape_of f) k, Full) ∷ (is_long_name seed.name || is_long_text (text_length seed.text), TextFull) ∷ []) ≡ None)
    b = none_of _ _ _ a.1

    c : (is_full (shape_of f) k ≡ false) × (first_fault ((is_long_name seed.name || is_long_text (text_length seed.text), TextFull) ∷ []) ≡ None)
    c = none_of _ _ _ b.1

    o : (nat_lt (width (children_of (shape_of f) p)) i ≡ false) × (bad_columns seed.columns ≡ false)
    o = or_parts _ _ b.0

    u : (nat_le 8192 (count (λ row. true) (shape_of f)) ≡ false) × (nat_le 4294967295 k ≡ false)
    u = or_parts _ _ c.0

    v : (is_long_name seed.name ≡ false) × (is_long_text (text_length seed.text) ≡ false)
    v = or_parts _ _ (none_of _ _ _ c.1).0

    has_text : (x : Option (List ℕ)) → is_some x ≡ is_some (first_text x)
    has_text None = refl
    has_text (Some x) = refl

    first_lawful : (x : Option (List ℕ)) → is_long_text (text_length x) ≡ false → HoldsIfThere IsText (first_text x)
    first_lawful None q = tt
    first_lawful (Some x) q = record { short = ltb-false 1048576 (length x) q; caret = omega arith; few = omega arith; selections = tt }

    columns : (x : Option ℕ) → bad_columns x ≡ false → HoldsIfThere IsColumns x
    columns None q = tt
    columns (Some m) q = let y = or_parts (m == 0) (nat_lt 1024 m) q in let z = eqb-false m 0 y.0 in let z' = ltb-false 1024 m y.1 in (omega arith, z')

-- a move
move_applies : (f : Forest TreeRow) (k n p i : ℕ) → IsTree rows f k
    → first_fault (refusals (shape_of f) k (Deeds []) (Move n p i)) ≡ None
    → is_seat p i (seat_of shapes n (shape_of f)) ≡ false → Moves rows f n p i
move_applies f k n p i tr h s =
    let a = none_of _ _ _ h in
    let b = or_parts _ _ a.0 in
    let c = none_of _ _ _ a.1 in
    let d = none_of _ _ _ c.1 in
    let e = none_of _ _ _ d.1 in
    record {
      not_root = eqb-false n 0 c.0;
      there = there f n b.0;
      no_cycle = left (there f p b.1) (sym (shape-subtree n p f) ∙ e.0);
      index = (let z = ltb-false (width (take_out (is_shape n) (children_of (shape_of f) p))) i d.0 in
          let y : width (take_out (is_shape n) (children_of (shape_of f) p)) ≡ width (take_out (is_node n) (children_at (is_node p) f)) =
          rw (shape-children p f, shape-take_out n (children_at (is_node p) f)) (shape-width (take_out (is_node n) (children_at (is_node p) f))) in omega arith);
      elsewhere = λ q. not_seat (sym q ∙ sym (shape-seat n f));
    }
  where
    not_seat : Some (Some p, i) ≡ seat_of shapes n (shape_of f) → ⊥
    not_seat q =
        let here : is_seat p i (Some (Some p, i)) ≡ false = subst (λ o. is_seat p i o ≡ false) (sym q) s in
        let yes : is_seat p i (Some (Some p, i)) ≡ true = rw (eq-eqb p p refl, eq-eqb i i refl) refl in
        cc

    left : has (is_node p) f ≡ true → in_subtree rows n f p ≡ false → has (is_node p) (take_out (is_node n) f) ≡ true
    left y q =
        let a = count-has (is_node p) f y in
        let b = count-parts (is_node p) (is_node n) f in
        let z = none_at (count (is_node p) (pick (is_node n) f)) refl in
        has-count (is_node p) (take_out (is_node n) f) (omega arith)
      where
        none_at : (m : ℕ) → count (is_node p) (pick (is_node n) f) ≡ m → count (is_node p) (pick (is_node n) f) ≡ 0
        none_at zero z = z
        none_at (suc m) z = let y = has-count (is_node p) (pick (is_node n) f) (omega arith) in cc

-- relations: the targets that a row has are there
row_targets : (f : Forest TreeRow) (k n kind : ℕ) → IsTree rows f k
    → HasTargets rows f (node_targets kind (find (is_shape n) (shape_of f)))
row_targets f k n kind tr = subst (λ o. HasTargets rows f (node_targets kind o)) (sym (find-relabel shape (is_shape n) (is_node n) (same_shape n) f)) (at (find (is_node n) f) refl)
  where
    at : (o : Option TreeRow) → find (is_node n) f ≡ o → HasTargets rows f (node_targets kind (option_map shape o))
    at None q = tt
    at (Some row) q = some_targets (λ m. has (is_node m) f ≡ true) kind row.shape.relations (each-find (λ r. HasTargets rows f (rows.targets r)) (is_node n) f row tr.targets q)

relate_applies : (f : Forest TreeRow) (k n kind : ℕ) (ts : List ℕ) → IsTree rows f k
    → lacks_node (shape_of f) n ≡ false → ((kind == 0) || nat_lt 18 kind) ≡ false → HasTargets rows f ts
    → Changes rows f (RelateStep n kind ts)
relate_applies f k n kind ts tr h b g =
    let o = found f n h in
    let w = lawful_row f k n o.0 tr o.1 in
    let y = or_parts (kind == 0) (nat_lt 18 kind) b in
    let z = eqb-false kind 0 y.0 in
    record {
      row = o.0;
      there = o.1;
      allowed = ((omega arith, ltb-false 18 kind y.1), tt);
      lawful = (record { name = w.0.name; description = w.0.description; editable = w.0.editable }, w.1);
      targets = g;
    }

name_changes : (f : Forest TreeRow) (k n : ℕ) (x : List ℕ) → IsTree rows f k → lacks_node (shape_of f) n ≡ false
    → is_long_name x ≡ false → Changes rows f (SetName n x)
name_changes f k n x tr h s =
    let o = found f n h in let w = lawful_row f k n o.0 tr o.1 in
    record { row = o.0; there = o.1; allowed = (tt, tt); lawful = (record { name = short_name x s; description = w.0.description; editable = w.0.editable }, w.1); targets = tt }

description_changes : (f : Forest TreeRow) (k n : ℕ) (x : List ℕ) → IsTree rows f k
    → lacks_node (shape_of f) n ≡ false → is_long_name x ≡ false → Changes rows f (SetDescription n x)
description_changes f k n x tr h s =
    let o = found f n h in let w = lawful_row f k n o.0 tr o.1 in
    record { row = o.0; there = o.1; allowed = (tt, tt); lawful = (record { name = w.0.name; description = short_name x s; editable = w.0.editable }, w.1); targets = tt }

role_changes : (f : Forest TreeRow) (k n x : ℕ) → IsTree rows f k → lacks_node (shape_of f) n ≡ false
    → Changes rows f (SetRole n x)
role_changes f k n x tr h =
    let o = found f n h in let w = lawful_row f k n o.0 tr o.1 in
    record { row = o.0; there = o.1; allowed = (tt, tt); lawful = (record { name = w.0.name; description = w.0.description; editable = w.0.editable }, w.1); targets = tt }

pub edit_applies : (f : Forest TreeRow) (k : ℕ) (edit : Edit) → IsTree rows f k → IsEdit edit
    → first_fault (refusals (shape_of f) k (contents_read f edit) edit) ≡ None
    → AllApply rows f k (made_steps (shape_of f) k (contents_read f edit) edit)
edit_applies f k (Insert p i seed) tr w h = (add_applies f k p i seed tr w h, tt)
edit_applies f k (Remove n) tr w h =
    let a = none_of _ _ _ h in let b = none_of _ _ _ a.1 in
    (record { not_root = eqb-false n 0 b.0; there = there f n a.0 }, tt)
edit_applies f k (Move n p i) tr w h = made_unless f k (is_seat p i (seat_of shapes n (shape_of f))) (MoveStep n p i) (move_applies f k n p i tr h)
edit_applies f k (Name n x) tr w h =
    let a = none_of _ _ _ h in made_unless f k (has (λ row. is_shape n row && bytes_eq row.name x) (shape_of f)) (SetName n x) (λ _. name_changes f k n x tr a.0 (none_of _ _ _ a.1).0)
edit_applies f k (Describe n x) tr w h =
    let a = none_of _ _ _ h in made_unless f k (has (λ row. is_shape n row && bytes_eq row.description x) (shape_of f)) (SetDescription n x) (λ _. description_changes f k n x tr a.0 (none_of _ _ _ a.1).0)
edit_applies f k (Role n x) tr w h =
    let a = none_of _ _ _ h in made_unless f k (has (λ row. is_shape n row && (row.role == x)) (shape_of f)) (SetRole n x) (λ _. role_changes f k n x tr a.0)
edit_applies f k (State n s on) tr w h =
    let a = none_of _ _ _ h in states_apply f k tr (switched (shape_of f) n s on) (switch_states f n s on (node_has_state (shape_of f) n s) (there f n a.0) w)
edit_applies f k (Focus n) tr w h =
    let a = none_of _ _ _ h in states_apply f k tr (focusing (shape_of f) k n) (focus_states f k n (there f n a.0))
edit_applies f k (Put n at x) tr w h =
    let a = none_of _ _ _ h in let b = none_of _ _ _ a.1 in let c = none_of _ _ _ b.1 in let d = none_of _ _ _ c.1 in
    let m = editing f k n tr a.0 (editable_text f k n tr a.0 b.0) in
    let range = subst (λ z. nat_lt (length z.characters) at ≡ false) m.known c.0 in
    let room = subst (λ z. is_long_text (length z.characters + length x) ≡ false) m.known d.0 in
    subst (λ z. AllApply rows f k (putting n at x z.caret)) (sym m.known)
    (put_applies f k n tr m.row m.there m.text m.contents m.here m.lawful at x (ltb-false (length m.contents.characters) at range) (ltb-false 1048576 (length m.contents.characters + length x) room) (length x == 0) (nat_lt at m.contents.caret))
edit_applies f k (Keys n x) tr w h =
    let a = none_of _ _ _ h in let b = none_of _ _ _ a.1 in let c = none_of _ _ _ b.1 in
    let m = editing f k n tr a.0 (editable_text f k n tr a.0 b.0) in
    let room = subst (λ z. is_long_text (length z.characters + length x) ≡ false) m.known c.0 in
    subst (λ z. AllApply rows f k (typing n x z.caret)) (sym m.known)
    (put_applies f k n tr m.row m.there m.text m.contents m.here m.lawful m.contents.caret x m.lawful.caret (ltb-false 1048576 (length m.contents.characters + length x) room) (length x == 0) true)
edit_applies f k (Cut n from to) tr w h =
    let a = none_of _ _ _ h in let b = none_of _ _ _ a.1 in let c = none_of _ _ _ b.1 in
    let m = editing f k n tr a.0 (editable_text f k n tr a.0 b.0) in
    let d = or_parts _ _ c.0 in
    let range = subst (λ z. nat_lt (length z.characters) to ≡ false) m.known d.1 in
    subst (λ z. AllApply rows f k (cutting n from to z)) (sym m.known)
    (cut_applies f k n tr m.row m.there m.text m.contents m.here m.lawful from to (ltb-false to from d.0) (ltb-false (length m.contents.characters) to range))
edit_applies f k (Caret n at) tr w h =
    let a = none_of _ _ _ h in let b = none_of _ _ _ a.1 in let c = none_of _ _ _ b.1 in
    let m = editing f k n tr a.0 b.0 in
    let range = subst (λ z. nat_lt (length z.characters) at ≡ false) m.known c.0 in
    made_unless f k ((known_text (text_contents (find (is_node n) f))).caret == at) (CaretStep n at)
    (λ _. caret_changes f k n tr m.row m.there m.text m.contents m.here at m.lawful (ltb-false (length m.contents.characters) at range))
edit_applies f k (Mark n from to) tr w h =
    let a = none_of _ _ _ h in let b = none_of _ _ _ a.1 in let c = none_of _ _ _ b.1 in
    let m = editing f k n tr a.0 b.0 in
    let d = or_parts _ _ c.0 in let d' = or_parts _ _ d.0 in
    let range = ltb-false (length m.contents.characters) to (subst (λ z. nat_lt (length z.characters) to ≡ false) m.known d'.1) in
    let few = leb-false 16 (length m.contents.selections) (subst (λ z. nat_le 16 (length z.selections) ≡ false) m.known d.1) in
    let some = leb-false to from d'.0 in
    subst (λ z. AllApply rows f k (TextSelect n (z.selections ++ (from, to) ∷ []) ∷ [])) (sym m.known) (
      select_changes f k n tr m.row m.there m.text m.contents m.here (m.contents.selections ++ (from, to) ∷ [])
          (record {
            short = m.lawful.short;
            caret = m.lawful.caret;
            few = omega (arith, length-append m.contents.selections ((from, to) ∷ []));
            selections = each_append (λ (s : ℕ × ℕ). (s.0 < s.1) × (s.1 ≤ length m.contents.characters)) m.contents.selections ((from, to) ∷ []) m.lawful.selections ((some, range), tt);
          }),
      tt,
    )
edit_applies f k (Unmark n) tr w h =
    let a = none_of _ _ _ h in let b = none_of _ _ _ a.1 in
    let m = editing f k n tr a.0 b.0 in
    made_unless f k (length (known_text (text_contents (find (is_node n) f))).selections == 0) (TextSelect n [])
    (λ _. select_changes f k n tr m.row m.there m.text m.contents m.here [] (record { short = m.lawful.short; caret = m.lawful.caret; few = omega arith; selections = tt }))
edit_applies f k (Select n i) tr w h =
    let children = tops (children_of (shape_of f) n) in
    let c = children_there f n in
    states_apply f k tr (cond (node_has_state (shape_of f) n multiselectable) [] (unselecting (others i children)) ++ selecting true (drop i children))
    (states_append f (cond (node_has_state (shape_of f) n multiselectable) [] (unselecting (others i children))) (selecting true (drop i children))
    (unless_multi f (node_has_state (shape_of f) n multiselectable) (unselecting (others i children))
    (unselect_states f (others i children) (each_append _ (take i children) (drop (suc i) children) (each_take _ i children c) (each_drop _ (suc i) children c))))
    (select_states f true (drop i children) (each_drop _ i children c)))
edit_applies f k (Deselect n i) tr w h =
    let children = tops (children_of (shape_of f) n) in
    states_apply f k tr (selecting false (drop i children)) (select_states f false (drop i children) (each_drop _ i children (children_there f n)))
edit_applies f k (Press n i) tr w h =
    let a = none_of _ _ _ h in
    let names = drop i (known_actions (action_contents (find (is_node n) f))) in
    states_apply f k tr (pressing (shape_of f) k n names) (press_states f k n names (there f n a.0))
edit_applies f k (Relate n kind m) tr w h =
    let a = none_of _ _ _ h in let b = none_of _ _ _ a.1 in let c = or_parts _ _ a.0 in
    let targets = node_targets kind (find (is_shape n) (shape_of f)) in
    made_unless f k (is_among m targets) (RelateStep n kind (targets ++ m ∷ []))
    (λ _. relate_applies f k n kind (targets ++ m ∷ []) tr c.0 b.0 (each_append (λ t. has (is_node t) f ≡ true) targets (m ∷ []) (row_targets f k n kind tr) (there f m c.1, tt)))
edit_applies f k (Unrelate n kind m) tr w h =
    let a = none_of _ _ _ h in let b = none_of _ _ _ a.1 in let c = or_parts _ _ a.0 in
    let targets = node_targets kind (find (is_shape n) (shape_of f)) in
    made_unless f k (not (is_among m targets)) (RelateStep n kind (filter (λ t. not (t == m)) targets))
    (λ _. relate_applies f k n kind (filter (λ t. not (t == m)) targets) tr c.0 b.0 (each_filter (λ t. has (is_node t) f ≡ true) (λ t. not (t == m)) targets (row_targets f k n kind tr)))

ok_of : (o : Option EditFault) (xs ys : List Step) → steps_unless o xs ≡ Ok ys → (o ≡ None) × (xs ≡ ys)
ok_of None xs ys h = (refl, let e : xs ≡ ys = cc in e)
ok_of (Some fault) xs ys h = cc

-- each step of an edit applies to the tree after the steps before it
pub steps_apply : (f : Forest TreeRow) (k : ℕ) (edit : Edit) (steps : List Step) → IsTree rows f k → IsEdit edit
    → steps_of_tree f k edit ≡ Ok steps → AllApply rows f k steps
steps_apply f k edit steps tr w h =
    let o = ok_of (first_fault (refusals (shape_of f) k (contents_read f edit) edit)) (made_steps (shape_of f) k (contents_read f edit) edit) steps h in
    subst (AllApply rows f k) o.1 (edit_applies f k edit tr w o.0)
