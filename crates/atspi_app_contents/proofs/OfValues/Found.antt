-- Each row of a tree is the one found under its number; so a state that is looked up by a number is that of the row.
use Rattle.std.proofs.Common.{◌≡◌, ℕ, ◌≤◌, ◌==◌, Bool, true, false, cond, List, [], ◌∷◌, Some, refl, sym, ap, arith}
use Rattle.std.proofs.lemmas.Bool.{eq-eqb}
use Rattle.atspi_tree_model.specs.Forest.{Forest, nil, tree, count, find, first_of, tops, children_at, EachLabel}
use Rattle.atspi_tree_model.specs.Row.{ShapeRow, Each}
use Rattle.atspi_tree_model.specs.States.{has_state}
use Rattle.atspi_tree_model.specs.Tree.{is_shape}
use Rattle.atspi_tree_model.specs.Edits.{node_has_state}
use Rattle.atspi_tree_model.proofs.Found.{each_counted, has-count, find-passes, not_there, EachLabel-weaker}
use Rattle.atspi_tree_model.proofs.Labels.{each_both}
use Rattle.atspi_tree_model.proofs.Lookup.{each_children_at, each_tops, test_found}
use Rattle.atspi_tree.specs.TreeShape.{TreeShape, IsLawful}
use Rattle.atspi_tree.proofs.Held.{no_row}

-- where each number stands once, each row is the one found under its number
each_found : (f : Forest ShapeRow) → ((m : ℕ) → count (is_shape m) f ≤ 1) → EachLabel (λ b. find (is_shape b.node) f ≡ Some b) f
each_found nil once = tt
each_found (tree a c r) once = (
  rw (eq-eqb a.node a.node refl) refl,
  EachLabel-weaker _ _ (λ b h. below b (a.node == b.node) refl h.0 h.1) c (each_both _ _ c (counted c) (each_found c (λ m. let o = once m in omega arith))),
  EachLabel-weaker _ _ (λ b h. behind b (a.node == b.node) refl h.0 h.1) r (each_both _ _ r (counted r) (each_found r (λ m. let o = once m in omega arith))),
)
  where
    counted : (g : Forest ShapeRow) → EachLabel (λ b. 1 ≤ count (is_shape b.node) g) g
    counted g = each_counted (λ (a b : ShapeRow). b.node == a.node) (λ a. eq-eqb a.node a.node refl) g g (λ p. omega arith)

    below : (b : ShapeRow) (d : Bool) → (a.node == b.node) ≡ d → 1 ≤ count (is_shape b.node) c → find (is_shape b.node) c ≡ Some b
        → cond d (Some a) (first_of (find (is_shape b.node) c) (find (is_shape b.node) r)) ≡ Some b
    below b true e l h = let o = once b.node in let z : cond {A = ℕ} (a.node == b.node) 1 0 ≡ 1 = ap (λ d. cond {A = ℕ} d 1 0) e in absurd (omega arith)
    below b false e l h = rw h refl

    behind : (b : ShapeRow) (d : Bool) → (a.node == b.node) ≡ d → 1 ≤ count (is_shape b.node) r → find (is_shape b.node) r ≡ Some b
        → cond d (Some a) (first_of (find (is_shape b.node) c) (find (is_shape b.node) r)) ≡ Some b
    behind b true e l h = let o = once b.node in let z : cond {A = ℕ} (a.node == b.node) 1 0 ≡ 1 = ap (λ d. cond {A = ℕ} d 1 0) e in absurd (omega arith)
    behind b false e l h =
        let o = once b.node in
        let zero : count (is_shape b.node) c ≡ 0 = omega arith in
        rw (no_row (is_shape b.node) c (not_there (is_shape b.node) c zero)) h

-- the children of a node
pub states_found : (t : TreeShape) (n state : ℕ) → IsLawful t → Each (λ (b : ShapeRow). has_state state b.states ≡ node_has_state t.rows b.node state) (tops (children_at (is_shape n) t.rows))
states_found t n state lawful =
    by (tops (children_at (is_shape n) t.rows)) (each_tops _ (children_at (is_shape n) t.rows) (each_children_at _ (is_shape n) t.rows (each_found t.rows lawful.once)))
  where
    by : (bs : List ShapeRow) → Each (λ (b : ShapeRow). find (is_shape b.node) t.rows ≡ Some b) bs → Each (λ (b : ShapeRow). has_state state b.states ≡ node_has_state t.rows b.node state) bs
    by [] h = tt
    by (b ∷ bs) h =
        let there = has-count (is_shape b.node) t.rows (find-passes (is_shape b.node) t.rows b h.0).1 in
        (sym (test_found (is_shape b.node) (λ (row : ShapeRow). has_state state row.states) t.rows b (lawful.once b.node) there h.0), by bs h.1)
