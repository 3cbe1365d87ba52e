-- A node that is not the root stands below another, at an index that is less than the number of nodes.
use Rattle.std.proofs.Common.{◌≡◌, ℕ, zero, suc, ◌+◌, ◌<◌, ◌≤◌, Bool, true, false, cond, Option, Some, None, refl, sym, ap, ◌∙◌, subst, arith}
use Rattle.std.proofs.lemmas.Bool.{ne_eqb}
use Rattle.std.specs.Prelude.{◌==◌}
use Rattle.atspi_tree_model.specs.Forest.{Forest, nil, tree, count, first_of, place}
use Rattle.atspi_tree_model.specs.Row.{TreeRow}
use Rattle.atspi_tree_model.specs.RowRules.{rows}
use Rattle.atspi_tree_model.specs.Tree.{is_node, seat_of, IsRooted, IsTree, Removes}
use Rattle.atspi_tree_model.proofs.Found.{count-has}
use Rattle.atspi_tree_model.proofs.Seats.{place-none}
use Rattle.atspi_protocol.proofs.OfAnnouncing.Bounds.{everyone, place-below}

abbrev pub IsBelow : Option (Option ℕ × ℕ) → Type 0
IsBelow o = (p : ℕ) × (i : ℕ) × (o ≡ Some (Some p, i))

below_at : (b : Bool) (u i m n : ℕ) (x y : Option (Option ℕ × ℕ)) → (1 ≤ m → IsBelow x) → (1 ≤ n → IsBelow y)
    → (m ≡ 0 → x ≡ None) → 1 ≤ cond b 1 0 + (m + n) → IsBelow (cond b (Some (Some u, i)) (first_of x y))
below_at true u i m n x y hx hy z l = (u, i, refl)
below_at false u i zero n x y hx hy z l = rw (z refl) (hy (omega arith))
below_at false u i (suc m) n None y hx hy z l = let e = hx (omega arith) in cc e.2
below_at false u i (suc m) n (Some x) y hx hy z l = hx (omega arith)

below_parent : (n u i : ℕ) (s : Forest TreeRow) → 1 ≤ count (is_node n) s
    → IsBelow (place (λ (row : TreeRow). Some row.shape.node) (is_node n) (Some u) i s)
below_parent n u i nil l = absurd (omega arith)
below_parent n u i (tree row c r) l =
    below_at (row.shape.node == n) u i (count (is_node n) c) (count (is_node n) r) _ _ (below_parent n row.shape.node 0 c) (below_parent n u (suc i) r)
    (place-none (λ (row : TreeRow). Some row.shape.node) (is_node n) (Some row.shape.node) 0 c) l

passed : (b : Bool) (x : Option (Option ℕ × ℕ)) → b ≡ false → IsBelow x
    → IsBelow (cond b (Some (None, 0)) (first_of x None))
passed true x e h = cc
passed false None e h = h
passed false (Some x) e h = h

pub seat_below : (f : Forest TreeRow) (k n : ℕ) → IsTree rows f k → Removes rows f n → IsBelow (seat_of rows n f)
seat_below f k n t m = at f t.rooted (count-has (is_node n) f m.there)
  where
    at : (g : Forest TreeRow) → IsRooted rows g → 1 ≤ count (is_node n) g → IsBelow (seat_of rows n g)
    at g (row, c, z, e) l =
        let out : (row.shape.node == n) ≡ false = ne_eqb row.shape.node n (λ k. m.not_root (sym k ∙ z)) in
        let l' : 1 ≤ count (is_node n) (tree row c nil) = subst (λ h. 1 ≤ count (is_node n) h) e l in
        let o : cond {A = ℕ} (row.shape.node == n) 1 0 ≡ 0 = ap (λ b. cond {A = ℕ} b 1 0) out in
        let b = below_parent n row.shape.node 0 c (omega arith) in
        subst (λ h. IsBelow (seat_of rows n h)) (sym e) (passed (row.shape.node == n) _ out b)

pub seat_small : (f : Forest TreeRow) (n p i : ℕ) → seat_of rows n f ≡ Some (Some p, i) → i < count everyone f
seat_small f n p i e = let b = place-below (λ (row : TreeRow). Some (rows.number row)) (is_node n) None 0 f (Some p) i e in omega arith
