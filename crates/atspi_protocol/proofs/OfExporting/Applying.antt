-- The steps of an answer apply, each to the tree after those before it, and so a tree stays a tree.
use Rattle.std.proofs.Common.{◌≡◌, ℕ, zero, suc, ◌<◌, ◌≤◌, Bool, true, false, cond, Option, Some, None, refl, sym, ap, ◌∙◌, subst, arith, length-append, length-take, length-drop}
use Rattle.std.specs.Prelude.{ℤ, pos, negsuc, ◌==◌, ◌&&◌, not, nat_lt, nat_le, List, [], ◌∷◌, ◌++◌, map, filter, length, take, drop, slice_get, if◌then◌else◌, Result, Ok, Err}
use Rattle.std.proofs.lemmas.Bool.{ltb-true, leb-true}
use Rattle.atspi_tree_model.specs.declared.edit.Edit.{Edit}
use Rattle.atspi_tree_model.specs.declared.edit.Edit.TheVariants.{Put, Cut}
use Rattle.atspi_tree_model.specs.declared.edit.EditFault.{EditFault}
use Rattle.atspi_tree_model.specs.declared.step.Step.{Step}
use Rattle.atspi_tree_model.specs.declared.step.Step.TheVariants.{SetState, TextSelect, Caret as CaretStep, Delete}
use Rattle.atspi_tree_model.specs.Forest.{Forest, count, has, find, children_at}
use Rattle.atspi_tree_model.specs.States.{selected, has_state, multiselectable}
use Rattle.atspi_tree_model.specs.Row.{TextContents, TreeRow, Each, HoldsIfThere, IsText}
use Rattle.atspi_tree_model.specs.RowRules.{rows}
use Rattle.atspi_tree_model.specs.Tree.{is_node, after, added_after, IsTree, Changes, AllApply, after_all, shape_of}
use Rattle.atspi_tree_model.specs.Edits.{steps_of_tree, IsEdit, others, contents_read, first_fault, refusals, made_steps, steps_unless, known_text}
use Rattle.atspi_tree_model.proofs.Found.{has-count, find-has, find-only, each_counted, EachLabel-weaker}
use Rattle.atspi_tree_model.proofs.Lookup.{each-find, each_take, each_drop, each_append, each_filter, each_tops, each_children_at}
use Rattle.atspi_tree_model.proofs.RowRules.{rows_sound}
use Rattle.atspi_tree_model.proofs.Kept.{after_is_tree}
use Rattle.atspi_tree_model.proofs.Seen.{self}
use Rattle.atspi_tree_model.proofs.EditLemmas.{lawful_row, with_text, StateSteps, states_apply}
use Rattle.atspi_tree_model.proofs.EditsApply.{steps_apply}
use Rattle.atspi_protocol.specs.objects.Application.{Application}
use Rattle.atspi_protocol.specs.objects.Children.{at, children_of, selected_children, is_selected}
use Rattle.atspi_protocol.specs.objects.Texts.{text_of}
use Rattle.atspi_protocol.specs.objects.Changes.{edited, edited_at, edited_between, text_exchanged, selection_removed, selection_set, deselected, selected_child_off, all_selected, none_selected}
use Rattle.atspi_protocol.specs.objects.Answers.{changes}
use Rattle.atspi_protocol.specs.exporting.Taking.{added_by}

-- the row at a path is that of its number
pub row_there : (f : Forest TreeRow) (k : ℕ) (row : TreeRow) (p : TreeRow → Bool) → IsTree rows f k → find p f ≡ Some row
    → find (is_node row.shape.node) f ≡ Some row
row_there f k row p t e =
    let n = row.shape.node in
    let each = each_counted (λ (a b : TreeRow). is_node a.shape.node b) self f f (λ q. omega arith) in
    let c = each-find (λ (r : TreeRow). 1 ≤ count (is_node r.shape.node) f) p f row each e in
    let o = find-has (is_node n) f c in
    let only = find-only (is_node n) f o.0 (t.once n) o.1 in
    let same = each-find (λ (a : TreeRow). is_node n a ≡ true → a ≡ o.0) p f row only e (self row) in
    o.1 ∙ ap Some (sym same)

-- some steps, after others
pub after_all_is_tree : (f : Forest TreeRow) (k : ℕ) (steps : List Step) → IsTree rows f k → AllApply rows f k steps
    → IsTree rows (after_all rows f steps) (added_by k steps)
after_all_is_tree f k [] t a = t
after_all_is_tree f k (step ∷ steps) t a =
    after_all_is_tree (after rows f step) (added_after k step) steps (after_is_tree rows rows_sound f k step t a.0) a.1

apply_append : (f : Forest TreeRow) (k : ℕ) (xs ys : List Step) → AllApply rows f k xs
    → AllApply rows (after_all rows f xs) (added_by k xs) ys → AllApply rows f k (xs ++ ys)
apply_append f k [] ys a b = b
apply_append f k (x ∷ xs) ys a b = (a.0, apply_append (after rows f x) (added_after k x) xs ys a.1 b)

abbrev pub ApplyIfThere : Application → Option (List Step) → Type 0
ApplyIfThere a None = Unit {0}
ApplyIfThere a (Some steps) = AllApply rows a.tree a.added steps

pub changes_apply : (a : Application) (o : Option (List Step)) → ApplyIfThere a o → AllApply rows a.tree a.added (changes a o).steps
changes_apply a None h = tt
changes_apply a (Some steps) h = h

-- edits
pub edited_applies : (a : Application) (edit : Edit) → IsTree rows a.tree a.added → IsEdit edit → ApplyIfThere a (edited a edit)
edited_applies a edit t w = by_result (steps_of_tree a.tree a.added edit) refl
  where
    by_result : (r : Result (List Step) EditFault) → steps_of_tree a.tree a.added edit ≡ r → ApplyIfThere a (edited a edit)
    by_result (Ok steps) h = rw h (steps_apply a.tree a.added edit steps t w h)
    by_result (Err fault) h = rw h tt

pub edited_at_applies : (a : Application) (edit : ℕ → Edit) (z : ℤ) → IsTree rows a.tree a.added → ((n : ℕ) → IsEdit (edit n))
    → ApplyIfThere a (edited_at a edit z)
edited_at_applies a edit (pos n) t w = edited_applies a (edit n) t (w n)
edited_at_applies a edit (negsuc n) t w = tt

pub edited_between_applies : (a : Application) (edit : ℕ → ℕ → Edit) (y z : ℤ) → IsTree rows a.tree a.added
    → ((m n : ℕ) → IsEdit (edit m n)) → ApplyIfThere a (edited_between a edit y z)
edited_between_applies a edit (pos m) (pos n) t w = edited_applies a (edit m n) t (w m n)
edited_between_applies a edit (pos m) (negsuc n) t w = tt
edited_between_applies a edit (negsuc m) z t w = tt

-- a cut adds no node
cutting_adds : (k n from to : ℕ) (text : TextContents) (b d : Bool) (c : ℕ) (x : List ℕ)
    → added_by k (cond b [] (cond d (CaretStep n c ∷ []) [] ++ Delete n from x ∷ [])) ≡ k
cutting_adds k n from to text true d c x = refl
cutting_adds k n from to text false true c x = refl
cutting_adds k n from to text false false c x = refl

made : (o : Option EditFault) (xs ys : List Step) → steps_unless o xs ≡ Ok ys → xs ≡ ys
made None xs ys h = cc
made (Some fault) xs ys h = cc

cut_adds : (f : Forest TreeRow) (k n from to : ℕ) (steps : List Step) → steps_of_tree f k (Cut n from to) ≡ Ok steps → added_by k steps ≡ k
cut_adds f k n from to steps h =
    subst (λ ss. added_by k ss ≡ k) (made (first_fault (refusals (shape_of f) k (contents_read f (Cut n from to)) (Cut n from to))) (made_steps (shape_of f) k (contents_read f (Cut n from to)) (Cut n from to)) steps h)
    (cutting_adds k n from to (known_text (contents_read f (Cut n from to))) _ _ _ _)

pub exchanged_applies : (a : Application) (row : TreeRow) (text : List ℕ) → IsTree rows a.tree a.added
    → ApplyIfThere a (text_exchanged a row text)
exchanged_applies a row text t = first (steps_of_tree a.tree a.added cut) refl
  where
    cut : Edit
    cut = Cut row.shape.node 0 (length (text_of row).characters)

    put : Edit
    put = Put row.shape.node 0 text

    then_ : List Step → Application
    then_ steps = record a { tree = after_all rows a.tree steps }

    second : (steps : List Step) → steps_of_tree a.tree a.added cut ≡ Ok steps → (o : Option (List Step)) → edited (then_ steps) put ≡ o
        → ApplyIfThere a (text_exchanged a row text)
    second steps h None e = rw h (rw e tt)
    second steps h (Some more) e =
        let x = steps_apply a.tree a.added cut steps t tt h in
        let k = cut_adds a.tree a.added row.shape.node 0 (length (text_of row).characters) steps h in
        let t' = subst (IsTree rows (after_all rows a.tree steps)) k (after_all_is_tree a.tree a.added steps t x) in
        let y = subst (ApplyIfThere (then_ steps)) e (edited_applies (then_ steps) put t' tt) in
        rw h (rw e (apply_append a.tree a.added steps more x (subst (λ m. AllApply rows (after_all rows a.tree steps) m more) (sym k) y)))

    first : (r : Result (List Step) EditFault) → steps_of_tree a.tree a.added cut ≡ r → ApplyIfThere a (text_exchanged a row text)
    first (Ok steps) h = second steps h (edited (then_ steps) put) refl
    first (Err fault) h = rw h tt

-- text selections
select_changes : (f : Forest TreeRow) (k : ℕ) (row : TreeRow) (t : TextContents) (marks : List (ℕ × ℕ)) → IsTree rows f k
    → find (is_node row.shape.node) f ≡ Some row → row.contents.text ≡ Some t → IsText (record t { selections = marks })
    → Changes rows f (TextSelect row.shape.node marks)
select_changes f k row t marks tr e et lt =
    let l = lawful_row f k row.shape.node row tr e in
    record {
      row = row;
      there = e;
      allowed = (l.1.text ∙ (rw et refl), rw et tt);
      lawful = (l.0, with_text row.shape.kinds row.contents (λ (t : TextContents). record t { selections = marks }) t l.1 et lt);
      targets = tt;
    }

text_lawful : (f : Forest TreeRow) (k : ℕ) (row : TreeRow) (t : TextContents) → IsTree rows f k → find (is_node row.shape.node) f ≡ Some row
    → row.contents.text ≡ Some t → IsText t
text_lawful f k row t tr e et = subst (HoldsIfThere IsText) et (lawful_row f k row.shape.node row tr e).1.lawful_text

abbrev IsRange : TextContents → ℕ × ℕ → Type 0
IsRange t s = (s.0 < s.1) × (s.1 ≤ length t.characters)

others_lawful : (t : TextContents) (i : ℕ) → IsText t → IsText (record t { selections = others i t.selections })
others_lawful t i l = record {
  short = l.short;
  caret = l.caret;
  few = (let a = length-append (take i t.selections) (drop (suc i) t.selections) in let b = length-take i t.selections in let c = length-drop (suc i) t.selections in let d = l.few in omega arith);
  selections = each_append (IsRange t) (take i t.selections) (drop (suc i) t.selections) (each_take (IsRange t) i t.selections l.selections) (each_drop (IsRange t) (suc i) t.selections l.selections);
}

pub removed_applies : (a : Application) (row : TreeRow) (z : ℤ) → IsTree rows a.tree a.added
    → find (is_node row.shape.node) a.tree ≡ Some row → ApplyIfThere a (selection_removed row z)
removed_applies a row (negsuc i) tr e = tt
removed_applies a row (pos i) tr e = by_text row.contents.text refl
  where
    in_range : (b : Bool) (t : TextContents) → row.contents.text ≡ Some t
        → ApplyIfThere a (if b then Some (TextSelect row.shape.node (others i t.selections) ∷ []) else None)
    in_range true t et = (select_changes a.tree a.added row t (others i t.selections) tr e et (others_lawful t i (text_lawful a.tree a.added row t tr e et)), tt)
    in_range false t et = tt

    nothing : (b : Bool) → nat_lt i 0 ≡ b → ApplyIfThere a (if b then Some (TextSelect row.shape.node (others i []) ∷ []) else None)
    nothing true g = let l = ltb-true i 0 g in absurd (omega arith)
    nothing false g = tt

    by_text : (o : Option TextContents) → row.contents.text ≡ o → ApplyIfThere a (selection_removed row (pos i))
    by_text None h = rw h (nothing (nat_lt i 0) refl)
    by_text (Some t) h = rw h (in_range (nat_lt i (length t.selections)) t h)

get-below : {A : Type 0} (xs : List A) (i : ℕ) (x : A) → slice_get xs i ≡ Some x → i < length xs
get-below [] i x h = cc
get-below (y ∷ ys) zero x h = omega arith
get-below (y ∷ ys) (suc i) x h = let b = get-below ys i x h in omega arith

set_lawful : (t : TextContents) (i from to : ℕ) → IsText t → from < to → to ≤ length t.characters → i < length t.selections
    → IsText (record t { selections = take i t.selections ++ (from, to) ∷ drop (suc i) t.selections })
set_lawful t i from to l some range there = record {
  short = l.short;
  caret = l.caret;
  few = (let a = length-append (take i t.selections) ((from, to) ∷ drop (suc i) t.selections) in let b = length-take i t.selections in let c = length-drop (suc i) t.selections in let d = l.few in omega arith);
  selections = each_append (IsRange t) (take i t.selections) ((from, to) ∷ drop (suc i) t.selections) (each_take (IsRange t) i t.selections l.selections) ((some, range), each_drop (IsRange t) (suc i) t.selections l.selections);
}

both_true : (x y : Bool) → (x && y) ≡ true → (x ≡ true) × (y ≡ true)
both_true true true h = (refl, refl)
both_true true false h = cc
both_true false y h = cc

pub set_applies : (a : Application) (row : TreeRow) (x y z : ℤ) → IsTree rows a.tree a.added
    → find (is_node row.shape.node) a.tree ≡ Some row → ApplyIfThere a (selection_set row x y z)
set_applies a row (negsuc i) y z tr e = tt
set_applies a row (pos i) (negsuc m) z tr e = tt
set_applies a row (pos i) (pos m) (negsuc n) tr e = tt
set_applies a row (pos i) (pos from) (pos to) tr e = by_text row.contents.text refl
  where
    put : (t : TextContents) → row.contents.text ≡ Some t → from < to → to ≤ length t.characters → i < length t.selections → (b : Bool)
        → ApplyIfThere a (if b then Some [] else Some (TextSelect row.shape.node (take i t.selections ++ (from, to) ∷ drop (suc i) t.selections) ∷ []))
    put t et some range there true = tt
    put t et some range there false = (select_changes a.tree a.added row t _ tr e et (set_lawful t i from to (text_lawful a.tree a.added row t tr e et) some range there), tt)

    placed : (t : TextContents) → row.contents.text ≡ Some t → from < to → to ≤ length t.characters → (o : Option (ℕ × ℕ)) → slice_get t.selections i ≡ o
        → (nat_lt from to && nat_le to (length t.characters)) ≡ true → ApplyIfThere a (selection_set row (pos i) (pos from) (pos to))
    placed t et some range None h g = rw et (rw g (rw h tt))
    placed t et some range (Some s) h g = rw et (rw g (rw h (put t et some range (get-below t.selections i s h) ((s.0 == from) && (s.1 == to)))))

    by_range : (t : TextContents) → row.contents.text ≡ Some t → (b : Bool) → (nat_lt from to && nat_le to (length t.characters)) ≡ b
        → ApplyIfThere a (selection_set row (pos i) (pos from) (pos to))
    by_range t et false g = rw et (rw g tt)
    by_range t et true g =
        let h = both_true (nat_lt from to) (nat_le to (length t.characters)) g in
        placed t et (ltb-true from to h.0) (leb-true to (length t.characters) h.1) (slice_get t.selections i) refl g

    none : (b : Bool) → (nat_lt from to && nat_le to 0) ≡ b → row.contents.text ≡ None → ApplyIfThere a (selection_set row (pos i) (pos from) (pos to))
    none true g h = rw h (rw g tt)
    none false g h = rw h (rw g tt)

    by_text : (o : Option TextContents) → row.contents.text ≡ o → ApplyIfThere a (selection_set row (pos i) (pos from) (pos to))
    by_text None h = none (nat_lt from to && nat_le to 0) refl h
    by_text (Some t) h = by_range t h (nat_lt from to && nat_le to (length t.characters)) refl

-- children are selected, or not
abbrev IsThere : Forest TreeRow → TreeRow → Type 0
IsThere f row = has (is_node row.shape.node) f ≡ true

children_there : (a : Application) (row : TreeRow) → Each (IsThere a.tree) (children_of a row)
children_there a row =
    let f = a.tree in
    each_tops (IsThere f) (children_at (is_node row.shape.node) f)
    (each_children_at (IsThere f) (is_node row.shape.node) f
    (EachLabel-weaker (λ (r : TreeRow). 1 ≤ count (is_node r.shape.node) f) (IsThere f) (λ r l. has-count (is_node r.shape.node) f l) f
    (each_counted (λ (x y : TreeRow). is_node x.shape.node y) self f f (λ p. omega arith))))

states_of : (f : Forest TreeRow) (on : Bool) (rs : List TreeRow) → Each (IsThere f) rs → StateSteps f (map (λ (r : TreeRow). SetState r.shape.node selected on) rs)
states_of f on [] h = tt
states_of f on (r ∷ rs) h = (h.0, omega arith, states_of f on rs h.1)

pub none_applies : (a : Application) (row : TreeRow) → IsTree rows a.tree a.added → AllApply rows a.tree a.added (none_selected a row)
none_applies a row t =
    states_apply a.tree a.added t (none_selected a row)
    (states_of a.tree false (selected_children a row) (each_filter (IsThere a.tree) is_selected (children_of a row) (children_there a row)))

pub all_applies : (a : Application) (row : TreeRow) → IsTree rows a.tree a.added → ApplyIfThere a (all_selected a row)
all_applies a row t = by_state (has_state multiselectable row.shape.states)
  where
    unselected : List TreeRow
    unselected = filter (λ child. not (is_selected child)) (children_of a row)

    by_state : (b : Bool) → ApplyIfThere a (if b then Some (map (λ (child : TreeRow). SetState child.shape.node selected true) (filter (λ child. not (is_selected child)) (children_of a row))) else None)
    by_state true =
        states_apply a.tree a.added t _
        (states_of a.tree true (filter (λ child. not (is_selected child)) (children_of a row)) (each_filter (IsThere a.tree) (λ child. not (is_selected child)) (children_of a row) (children_there a row)))
    by_state false = tt

each_get : {A : Type 0} (P : A → Type 0) (xs : List A) (i : ℕ) → Each P xs → HoldsIfThere P (slice_get xs i)
each_get P [] i h = tt
each_get P (x ∷ xs) zero h = h.0
each_get P (x ∷ xs) (suc i) h = each_get P xs i h.1

each_at : {A : Type 0} (P : A → Type 0) (xs : List A) (z : ℤ) → Each P xs → HoldsIfThere P (at z xs)
each_at P xs (pos i) h = each_get P xs i h
each_at P xs (negsuc i) h = tt

pub off_applies : (a : Application) (row : TreeRow) (z : ℤ) → IsTree rows a.tree a.added → ApplyIfThere a (selected_child_off a row z)
off_applies a row z t =
    by_child (at z (selected_children a row)) refl
    (each_at (IsThere a.tree) (selected_children a row) z (each_filter (IsThere a.tree) is_selected (children_of a row) (children_there a row)))
  where
    by_child : (o : Option TreeRow) → at z (selected_children a row) ≡ o → HoldsIfThere (IsThere a.tree) (at z (selected_children a row))
        → ApplyIfThere a (selected_child_off a row z)
    by_child None e h = rw e tt
    by_child (Some child) e h =
        let there : IsThere a.tree child = subst (HoldsIfThere (IsThere a.tree)) e h in
        rw e (states_apply a.tree a.added t (deselected child ∷ []) (there, omega arith, tt))
