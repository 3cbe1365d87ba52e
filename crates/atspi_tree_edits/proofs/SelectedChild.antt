-- The children of a node, each found under its number.
use Rattle.std.proofs.Common.{◌≡◌, ℕ, zero, suc, ◌<◌, ◌≤◌, ◌==◌, Bool, true, false, cond, Some, Ok, List, [], ◌∷◌, ◌++◌, length, take, drop, get_or, map, refl, sym, ap, ◌∙◌, arith}
use Rattle.std.specs.Prelude.{filter}
use Rattle.std.proofs.lemmas.Bool.{eq-eqb}
use Rattle.std.proofs.lemmas.List.{map-append, take-map, drop-map}
use Rattle.atspi_tree_model.specs.Forest.{Forest, nil, tree, count, find, first_of, tops, width, EachLabel}
use Rattle.atspi_tree_model.specs.Row.{ShapeRow, Each}
use Rattle.atspi_tree_model.specs.States.{has_state}
use Rattle.atspi_tree_model.specs.Tree.{is_shape}
use Rattle.atspi_tree_model.specs.Edits.{children_of, node_has_state, others, selecting, switch, switched, steps_unless, made_steps, unselecting as unselecting_rows}
use Rattle.atspi_tree_model.specs.declared.step.Step.{Step}
use Rattle.atspi_tree_model.specs.declared.step.Step.TheVariants.{SetState}
use Rattle.atspi_tree_model.proofs.Found.{each_counted, has-count, find-passes, not_there, EachLabel-weaker}
use Rattle.atspi_tree_model.proofs.Labels.{each_both}
use Rattle.atspi_tree_model.proofs.Lookup.{each_append, each_children_at, each_drop, each_take, each_tops, test_found}
use Rattle.atspi_tree_model.specs.declared.contents.FaceData.TheVariants.{Deeds}
use Rattle.atspi_tree_model.specs.declared.edit.Edit.TheVariants.{Deselect, Select}
use Rattle.atspi_tree.specs.TreeShape.{TreeShape, IsLawful, numbers}
use Rattle.atspi_tree.proofs.Held.{no_row}
use Rattle.atspi_tree_edits.specs.Answers.{edit_steps}
use Rattle.atspi_tree_edits.specs.inner.Selection.{IsChild}
use Rattle.atspi_tree_edits.specs.inner.Switches.{unselecting}

-- where each number stands once, each row is the one found under its number
each_found : (f : Forest ShapeRow) → ((m : ℕ) → count (is_shape m) f ≤ 1) → EachLabel (λ b. find (is_shape b.node) f ≡ Some b) f
each_found nil once = tt
each_found (tree a c r) once = (
  rw (eq-eqb a.node a.node refl) refl,
  EachLabel-weaker _ _ (λ b h. below b (a.node == b.node) refl h.0 h.1) c (each_both _ _ c (counted c) (each_found c (λ m. let o = once m in omega arith))),
  EachLabel-weaker _ _ (λ b h. behind b (a.node == b.node) refl h.0 h.1) r (each_both _ _ r (counted r) (each_found r (λ m. let o = once m in omega arith))),
)
  where
    counted : (g : Forest ShapeRow) → EachLabel (λ b. 1 ≤ count (is_shape b.node) g) g
    counted g = each_counted (λ (a b : ShapeRow). b.node == a.node) (λ a. eq-eqb a.node a.node refl) g g (λ p. omega arith)

    below : (b : ShapeRow) (d : Bool) → (a.node == b.node) ≡ d → 1 ≤ count (is_shape b.node) c → find (is_shape b.node) c ≡ Some b
        → cond d (Some a) (first_of (find (is_shape b.node) c) (find (is_shape b.node) r)) ≡ Some b
    below b true e l h = let o = once b.node in let z : cond {A = ℕ} (a.node == b.node) 1 0 ≡ 1 = ap (λ d. cond {A = ℕ} d 1 0) e in absurd (omega arith)
    below b false e l h = rw h refl

    behind : (b : ShapeRow) (d : Bool) → (a.node == b.node) ≡ d → 1 ≤ count (is_shape b.node) r → find (is_shape b.node) r ≡ Some b
        → cond d (Some a) (first_of (find (is_shape b.node) c) (find (is_shape b.node) r)) ≡ Some b
    behind b true e l h = let o = once b.node in let z : cond {A = ℕ} (a.node == b.node) 1 0 ≡ 1 = ap (λ d. cond {A = ℕ} d 1 0) e in absurd (omega arith)
    behind b false e l h =
        let o = once b.node in
        let zero : count (is_shape b.node) c ≡ 0 = omega arith in
        rw (no_row (is_shape b.node) c (not_there (is_shape b.node) c zero)) h

-- the child at an index, selected or not
at_index : (f : Forest ShapeRow) → ((m : ℕ) → count (is_shape m) f ≤ 1) → (on : Bool) (xs : List ShapeRow) (i child : ℕ) → i < length xs
    → Each (λ (b : ShapeRow). find (is_shape b.node) f ≡ Some b) xs → child ≡ get_or (map (λ (row : ShapeRow). row.node) xs) i 0
    → selecting on (drop i xs) ≡ switched f child 23 on
at_index f once on [] i child l h e = absurd (omega arith)
at_index f once on (x ∷ xs) zero child l h e =
    let there = has-count (is_shape x.node) f (find-passes (is_shape x.node) f x h.0).1 in
    let same = test_found (is_shape x.node) (λ (row : ShapeRow). has_state 23 row.states) f x (once x.node) there h.0 in
    ap (λ b. switch x.node 23 on b) (sym same) ∙ ap (λ n. switched f n 23 on) (sym e)
at_index f once on (x ∷ xs) (suc i) child l h e = at_index f once on xs i child (omega arith) h.1 e

tops-width : (f : Forest ShapeRow) → length (tops f) ≡ width f
tops-width nil = refl
tops-width (tree a c r) = ap suc (tops-width r)

pub selected_at : (t : TreeShape) (n i child : ℕ) (on : Bool) → IsLawful t → i < width (children_of t.rows n) → child ≡ get_or (numbers (children_of t.rows n)) i 0
    → selecting on (drop i (tops (children_of t.rows n))) ≡ switched t.rows child 23 on
selected_at t n i child on lawful l e =
    at_index t.rows lawful.once on (tops (children_of t.rows n)) i child (let w = tops-width (children_of t.rows n) in omega arith)
    (each_tops _ (children_of t.rows n) (each_children_at _ (is_shape n) t.rows (each_found t.rows lawful.once))) e

-- a child that may be selected no more: the steps of that edit
pub deselects : (t : TreeShape) (n i child : ℕ) → IsChild t n i child → edit_steps t (Deeds []) (Deselect n i) ≡ Ok (switched t.rows child 23 false)
deselects t n i child h =
    ap (λ fault. steps_unless fault (made_steps t.rows t.added (Deeds []) (Deselect n i))) h.allowed
    ∙ ap Ok (selected_at t n i child false h.lawful h.in_range h.stands)

-- nodes that are found, selected no more, by their numbers
unselecting-rows : (f : Forest ShapeRow) → ((m : ℕ) → count (is_shape m) f ≤ 1) → (xs : List ShapeRow) → Each (λ (b : ShapeRow). find (is_shape b.node) f ≡ Some b) xs
    → unselecting_rows xs ≡ unselecting f (map (λ (row : ShapeRow). row.node) xs)
unselecting-rows f once [] h = refl
unselecting-rows f once (x ∷ xs) h =
    let there = has-count (is_shape x.node) f (find-passes (is_shape x.node) f x h.0).1 in
    let same = test_found (is_shape x.node) (λ (row : ShapeRow). has_state 23 row.states) f x (once x.node) there h.0 in
    at (has_state 23 x.states) (node_has_state f x.node 23) (sym same) (unselecting-rows f once xs h.1)
  where
    at : (b d : Bool) → b ≡ d → unselecting_rows xs ≡ unselecting f (map (λ (row : ShapeRow). row.node) xs)
        → map (λ (row : ShapeRow). SetState row.node 23 false) (cond b (x ∷ filter (λ row. has_state 23 row.states) xs) (filter (λ row. has_state 23 row.states) xs))
        ≡ map (λ m. SetState m 23 false) (cond d (x.node ∷ filter (λ m. node_has_state f m 23) (map (λ (row : ShapeRow). row.node) xs)) (filter (λ m. node_has_state f m 23) (map (λ (row : ShapeRow). row.node) xs)))
    at true true e i = ap (λ (l : List Step). SetState x.node 23 false ∷ l) i
    at false false e i = i
    at true false e i = cc
    at false true e i = cc

others-map : (i : ℕ) (xs : List ShapeRow) → others i (map (λ (row : ShapeRow). row.node) xs) ≡ map (λ (row : ShapeRow). row.node) (others i xs)
others-map i xs =
    ap (λ (l : List ℕ). l ++ drop (suc i) (map (λ (row : ShapeRow). row.node) xs)) (take-map (λ (row : ShapeRow). row.node) i xs)
    ∙ ap (λ (l : List ℕ). map (λ (row : ShapeRow). row.node) (take i xs) ++ l) (drop-map (λ (row : ShapeRow). row.node) (suc i) xs)
    ∙ sym (map-append (λ (row : ShapeRow). row.node) (take i xs) (drop (suc i) xs))

-- a child that may be selected: the steps of that edit
pub selects : (t : TreeShape) (n i child : ℕ) → IsChild t n i child
    → edit_steps t (Deeds []) (Select n i) ≡ Ok (cond (node_has_state t.rows n 18) [] (unselecting t.rows (others i (numbers (children_of t.rows n)))) ++ switched t.rows child 23 true)
selects t n i child h =
    ap (λ fault. steps_unless fault (made_steps t.rows t.added (Deeds []) (Select n i))) h.allowed
    ∙ ap (λ (l : List Step). Ok (cond (node_has_state t.rows n 18) [] l ++ selecting true (drop i (tops (children_of t.rows n))))) rows
    ∙ ap (λ (l : List Step). Ok (cond (node_has_state t.rows n 18) [] (unselecting t.rows (others i (numbers (children_of t.rows n)))) ++ l)) (selected_at t n i child true h.lawful h.in_range h.stands)
  where
    found : Each (λ (b : ShapeRow). find (is_shape b.node) t.rows ≡ Some b) (tops (children_of t.rows n))
    found = each_tops _ (children_of t.rows n) (each_children_at _ (is_shape n) t.rows (each_found t.rows h.lawful.once))

    rows : unselecting_rows (others i (tops (children_of t.rows n))) ≡ unselecting t.rows (others i (numbers (children_of t.rows n)))
    rows =
        unselecting-rows t.rows h.lawful.once (others i (tops (children_of t.rows n)))
        (each_append _ (take i (tops (children_of t.rows n))) (drop (suc i) (tops (children_of t.rows n))) (each_take _ i (tops (children_of t.rows n)) found) (each_drop _ (suc i) (tops (children_of t.rows n)) found))
        ∙ ap (unselecting t.rows) (sym (others-map i (tops (children_of t.rows n))))
