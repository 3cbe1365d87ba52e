-- Where a node stands: at the top of a forest, or below its parent, at its index in the list of the parent's children.
use Rattle.std.proofs.Common.{◌≡◌, ℕ, suc, ◌+◌, ◌<◌, ◌≤◌, ◌==◌, Bool, true, false, cond, Option, Some, None, ◌⊎◌, inl, inr, refl, sym, ap, ◌∙◌, subst, arith}
use Rattle.std.specs.Prelude.{◌&&◌}
use Rattle.std.specs.Option.{option_map}
use Rattle.std.proofs.lemmas.Bool.{eqb-true, eq-eqb}
use Rattle.atspi_tree_model.specs.Edits.{is_seat}
use Rattle.atspi_tree_model.specs.Forest.{Forest, nil, tree, count, has, pick, place, first_of, children_at}
use Rattle.atspi_tree_model.specs.Row.{ShapeRow}
use Rattle.atspi_tree_model.specs.RowRules.{shapes}
use Rattle.atspi_tree_model.specs.Tree.{is_shape, in_subtree, seat_of}
use Rattle.atspi_tree_model.proofs.Counts.{count-join, count-parts}
use Rattle.atspi_tree_model.proofs.Found.{count-has, has-count, not_there}
use Rattle.atspi_tree_model.proofs.Seats.{count-take_out}
use Rattle.atspi_tree.specs.TreeShape.{TreeShape, IsLawful, numbers, parent_of}
use Rattle.atspi_tree.proofs.Held.{no_place}
use Rattle.atspi_tree.specs.inner.Places.{index_in}

-- how many nodes are above a node
abbrev pub depth_of : ℕ → Forest ShapeRow → ℕ
depth_of m nil = 0
depth_of m (tree a c r) = cond (a.node == m) 0 (cond (has (is_shape m) c) (suc (depth_of m c)) (depth_of m r))

-- a node at the top of a forest, below which none of the others is that node
record AtTop (m i : ℕ) (up : Option ℕ) (f : Forest ShapeRow) (s : Option ℕ) (j : ℕ) : Type 0 where
  same : s ≡ up
  index : j ≡ i + index_in m (numbers f)
  outside : (n : ℕ) → (m == n) ≡ false → count (is_shape m) (pick (is_shape n) f) ≡ 0

-- a node below another, which is in each other subtree with its parent
record Under (m : ℕ) (f : Forest ShapeRow) (s : Option ℕ) (j : ℕ) : Type 0 where
  parent : ℕ
  named : s ≡ Some parent
  there : 1 ≤ count (is_shape parent) f
  index : j ≡ index_in m (numbers (children_at (is_shape parent) f))
  inside : (n : ℕ) → (m == n) ≡ false → count (is_shape m) (pick (is_shape n) f) ≡ count (is_shape parent) (pick (is_shape n) f)
  higher : depth_of parent f < depth_of m f

-- what a test counts
counted_one : (b : Bool) → b ≡ true → cond {A = ℕ} b 1 0 ≡ 1
counted_one true e = refl
counted_one false e = cc

counted_none : (b : Bool) → b ≡ false → cond {A = ℕ} b 1 0 ≡ 0
counted_none true e = cc
counted_none false e = refl

counted_not : (b : Bool) (n : ℕ) → cond b 1 0 + n ≤ 1 → 1 ≤ n → b ≡ false
counted_not true n o l = absurd (omega arith)
counted_not false n o l = refl

same_has : {A : Type 0} (p q : A → Bool) (f g : Forest A) → count p f ≡ count q g → has p f ≡ has q g
same_has p q f g e = at (has p f) refl (has q g) refl
  where
    at : (b : Bool) → has p f ≡ b → (d : Bool) → has q g ≡ d → b ≡ d
    at true h true k = refl
    at false h false k = refl
    at true h false k = let l = count-has p f h in let x = has-count q g (omega arith) in cc
    at false h true k = let l = count-has q g k in let x = has-count p f (omega arith) in cc

-- how often a number is picked of a tree and what follows it
picked : (m n : ℕ) (a : ShapeRow) (c r : Forest ShapeRow) (b : Bool) → (a.node == n) ≡ b
    → count (is_shape m) (pick (is_shape n) (tree a c r)) ≡ cond b (cond (a.node == m) 1 0 + (count (is_shape m) c + count (is_shape m) (pick (is_shape n) r))) (count (is_shape m) (pick (is_shape n) c) + count (is_shape m) (pick (is_shape n) r))
picked m n a c r true e = rw e refl
picked m n a c r false e = rw e (count-join (is_shape m) (pick (is_shape n) c) (pick (is_shape n) r))

none_picked : (m n : ℕ) (f : Forest ShapeRow) → count (is_shape m) f ≡ 0 → count (is_shape m) (pick (is_shape n) f) ≡ 0
none_picked m n f z = omega (arith, count-parts (is_shape m) (is_shape n) f)

-- a child of the first node, and that node
child_inside : (m n : ℕ) (a : ShapeRow) (c r : Forest ShapeRow) → cond {A = ℕ} (a.node == m) 1 0 ≡ 0 → cond {A = ℕ} (a.node == a.node) 1 0 ≡ 1 → 1 ≤ count (is_shape m) c
    → count (is_shape m) c + count (is_shape m) r ≤ 1 → count (is_shape a.node) c + count (is_shape a.node) r ≡ 0 → count (is_shape m) (pick (is_shape n) c) ≡ 0
    → count (is_shape m) (pick (is_shape n) (tree a c r)) ≡ count (is_shape a.node) (pick (is_shape n) (tree a c r))
child_inside m n a c r zm oa l om za out = at (a.node == n) refl
  where
    at : (b : Bool) → (a.node == n) ≡ b → count (is_shape m) (pick (is_shape n) (tree a c r)) ≡ count (is_shape a.node) (pick (is_shape n) (tree a c r))
    at true k =
        omega (arith, picked m n a c r true k, picked a.node n a c r true k, none_picked m n r (omega arith), none_picked a.node n r (omega arith), zm, oa, l, om, za)
    at false k =
        omega (arith, picked m n a c r false k, picked a.node n a c r false k, none_picked m n r (omega arith), none_picked a.node n r (omega arith), none_picked a.node n c (omega arith), out)

-- two nodes below the first
below_inside : (m q n : ℕ) (a : ShapeRow) (c r : Forest ShapeRow) → cond {A = ℕ} (a.node == m) 1 0 ≡ 0 → cond {A = ℕ} (a.node == q) 1 0 ≡ 0 → 1 ≤ count (is_shape m) c → 1 ≤ count (is_shape q) c
    → count (is_shape m) c + count (is_shape m) r ≤ 1 → count (is_shape q) c + count (is_shape q) r ≤ 1 → count (is_shape m) (pick (is_shape n) c) ≡ count (is_shape q) (pick (is_shape n) c)
    → count (is_shape m) (pick (is_shape n) (tree a c r)) ≡ count (is_shape q) (pick (is_shape n) (tree a c r))
below_inside m q n a c r zm zq lm lq om oq same = at (a.node == n) refl
  where
    at : (b : Bool) → (a.node == n) ≡ b → count (is_shape m) (pick (is_shape n) (tree a c r)) ≡ count (is_shape q) (pick (is_shape n) (tree a c r))
    at true k =
        omega (arith, picked m n a c r true k, picked q n a c r true k, none_picked m n r (omega arith), none_picked q n r (omega arith), zm, zq, lm, lq, om, oq)
    at false k =
        omega (arith, picked m n a c r false k, picked q n a c r false k, none_picked m n r (omega arith), none_picked q n r (omega arith), same)

-- two nodes behind the first
behind_inside : (m q n : ℕ) (a : ShapeRow) (c r : Forest ShapeRow) → cond {A = ℕ} (a.node == m) 1 0 ≡ 0 → cond {A = ℕ} (a.node == q) 1 0 ≡ 0 → count (is_shape m) c ≡ 0 → count (is_shape q) c ≡ 0
    → count (is_shape m) (pick (is_shape n) r) ≡ count (is_shape q) (pick (is_shape n) r)
    → count (is_shape m) (pick (is_shape n) (tree a c r)) ≡ count (is_shape q) (pick (is_shape n) (tree a c r))
behind_inside m q n a c r zm zq nm nq same = at (a.node == n) refl
  where
    at : (b : Bool) → (a.node == n) ≡ b → count (is_shape m) (pick (is_shape n) (tree a c r)) ≡ count (is_shape q) (pick (is_shape n) (tree a c r))
    at true k = omega (arith, picked m n a c r true k, picked q n a c r true k, zm, zq, nm, nq, same)
    at false k =
        omega (arith, picked m n a c r false k, picked q n a c r false k, none_picked m n c nm, none_picked q n c nq, same)

-- a node that no subtree but its own has
at_top_outside : (m n : ℕ) (a : ShapeRow) (c r : Forest ShapeRow) → (m == n) ≡ false → (a.node == m) ≡ true → count (is_shape m) c ≡ 0 → count (is_shape m) r ≡ 0
    → count (is_shape m) (pick (is_shape n) (tree a c r)) ≡ 0
at_top_outside m n a c r ne e nc nr =
    let other : (a.node == n) ≡ false = ap (λ k. k == n) (eqb-true a.node m e) ∙ ne in
    omega (arith, picked m n a c r false other, none_picked m n c nc, none_picked m n r nr)

behind_outside : (m n : ℕ) (a : ShapeRow) (c r : Forest ShapeRow) → cond {A = ℕ} (a.node == m) 1 0 ≡ 0 → count (is_shape m) c ≡ 0 → count (is_shape m) (pick (is_shape n) r) ≡ 0
    → count (is_shape m) (pick (is_shape n) (tree a c r)) ≡ 0
behind_outside m n a c r zm nc out = at (a.node == n) refl
  where
    at : (b : Bool) → (a.node == n) ≡ b → count (is_shape m) (pick (is_shape n) (tree a c r)) ≡ 0
    at true k = omega (arith, picked m n a c r true k, zm, nc, out)
    at false k = omega (arith, picked m n a c r false k, none_picked m n c nc, out)

same_seat : (x y : Option ℕ × ℕ) → Some x ≡ Some y → (x.0 ≡ y.0) × (x.1 ≡ y.1)
same_seat x y e = let same : x ≡ y = cc in (ap (λ (p : Option ℕ × ℕ). p.0) same, ap (λ (p : Option ℕ × ℕ). p.1) same)

-- the seat of a node in a forest in which no number stands twice
seated : (m : ℕ) (up : Option ℕ) (i : ℕ) (f : Forest ShapeRow) → ((k : ℕ) → count (is_shape k) f ≤ 1) → (s : Option ℕ) (j : ℕ)
    → place (λ (row : ShapeRow). Some row.node) (is_shape m) up i f ≡ Some (s, j) → AtTop m i up f s j ⊎ Under m f s j
seated m up i nil once s j e = absurd cc
seated m up i (tree a c r) once s j e =
    at (a.node == m) refl (place (λ (row : ShapeRow). Some row.node) (is_shape m) (Some a.node) 0 c) refl e
    (λ z. seated m (Some a.node) 0 c (λ k. let o = once k in omega arith) s j z) (λ z. seated m up (suc i) r (λ k. let o = once k in omega arith) s j z)
  where
    -- a seat among some is that of a node that is there
    there : (u : Option ℕ) (k : ℕ) (g : Forest ShapeRow) (x : Option ℕ × ℕ) → place (λ (row : ShapeRow). Some row.node) (is_shape m) u k g ≡ Some x → has (is_shape m) g ≡ true
    there u k g x h = by (has (is_shape m) g) refl
      where
        by : (b : Bool) → has (is_shape m) g ≡ b → has (is_shape m) g ≡ true
        by true y = y
        by false y = let z = no_place (λ (row : ShapeRow). Some row.node) (is_shape m) u k g y in absurd cc

    first : (a.node == m) ≡ true → (up ≡ s) × (i ≡ j) → AtTop m i up (tree a c r) s j
    first y same =
        let o = once m in let one = counted_one (a.node == m) y in
        let nc : count (is_shape m) c ≡ 0 = omega arith in
        let nr : count (is_shape m) r ≡ 0 = omega arith in
        record {
          same = sym same.0;
          index = sym same.1 ∙ rw y (omega arith);
          outside = λ n ne. at_top_outside m n a c r ne y nc nr;
        }

    child : (a.node == m) ≡ false → has (is_shape m) c ≡ true → AtTop m 0 (Some a.node) c s j → Under m (tree a c r) s j
    child ne y t =
        let o = once m in let p = once a.node in let l = count-has (is_shape m) c y in
        let self = eq-eqb a.node a.node refl in
        let one = counted_one (a.node == a.node) self in
        let none = counted_none (a.node == m) ne in
        record {
          parent = a.node;
          named = t.same;
          there = omega arith;
          index = rw self (let x = t.index in omega arith);
          inside = λ n e. child_inside m n a c r none one l (omega arith) (omega arith) (t.outside n e);
          higher = rw (self, ne, y) (omega arith);
        }

    below : (a.node == m) ≡ false → has (is_shape m) c ≡ true → Under m c s j → Under m (tree a c r) s j
    below ne y t =
        let q = t.parent in
        let o = once m in let p = once q in let l = count-has (is_shape m) c y in let k = t.there in
        let nq : (a.node == q) ≡ false = counted_not (a.node == q) (count (is_shape q) c + count (is_shape q) r) p (omega arith) in
        let zq = counted_none (a.node == q) nq in
        let zm = counted_none (a.node == m) ne in
        let hq : has (is_shape q) c ≡ true = has-count (is_shape q) c k in
        record {
          parent = q;
          named = t.named;
          there = omega arith;
          index = rw (nq, hq) t.index;
          inside = λ n e. below_inside m q n a c r zm zq l k (omega arith) (omega arith) (t.inside n e);
          higher = rw (nq, hq, ne, y) (let h = t.higher in omega arith);
        }

    next : (a.node == m) ≡ false → has (is_shape m) r ≡ true → AtTop m (suc i) up r s j → AtTop m i up (tree a c r) s j
    next ne y t =
        let o = once m in let l = count-has (is_shape m) r y in
        let zm = counted_none (a.node == m) ne in
        let nc : count (is_shape m) c ≡ 0 = omega arith in
        record {
          same = t.same;
          index = rw ne (let x = t.index in omega arith);
          outside = λ n e. behind_outside m n a c r zm nc (t.outside n e);
        }

    behind : (a.node == m) ≡ false → has (is_shape m) r ≡ true → Under m r s j → Under m (tree a c r) s j
    behind ne y t =
        let q = t.parent in
        let o = once m in let p = once q in let l = count-has (is_shape m) r y in let k = t.there in
        let nq : (a.node == q) ≡ false = counted_not (a.node == q) (count (is_shape q) c + count (is_shape q) r) p (omega arith) in
        let zq = counted_none (a.node == q) nq in
        let zm = counted_none (a.node == m) ne in
        let cm : count (is_shape m) c ≡ 0 = omega arith in
        let cq : count (is_shape q) c ≡ 0 = omega arith in
        let hq = not_there (is_shape q) c cq in
        let hm = not_there (is_shape m) c cm in
        record {
          parent = q;
          named = t.named;
          there = omega arith;
          index = rw (nq, hq) t.index;
          inside = λ n e. behind_inside m q n a c r zm zq cm cq (t.inside n e);
          higher = rw (nq, hq, ne, hm) t.higher;
        }

    at : (b : Bool) → (a.node == m) ≡ b → (x : Option (Option ℕ × ℕ)) → place (λ (row : ShapeRow). Some row.node) (is_shape m) (Some a.node) 0 c ≡ x
        → cond b (Some (up, i)) (first_of x (place (λ (row : ShapeRow). Some row.node) (is_shape m) up (suc i) r)) ≡ Some (s, j)
        → (place (λ (row : ShapeRow). Some row.node) (is_shape m) (Some a.node) 0 c ≡ Some (s, j) → AtTop m 0 (Some a.node) c s j ⊎ Under m c s j)
        → (place (λ (row : ShapeRow). Some row.node) (is_shape m) up (suc i) r ≡ Some (s, j) → AtTop m (suc i) up r s j ⊎ Under m r s j)
        → AtTop m i up (tree a c r) s j ⊎ Under m (tree a c r) s j
    at true y x ex z ic ir = inl (first y (same_seat (up, i) (s, j) z))
    at false y (Some x) ex z ic ir =
        let here = there (Some a.node) 0 c x ex in
        elim (ic (ex ∙ z)) [ inl t ↦ inr (child y here t) | inr t ↦ inr (below y here t) ]
    at false y None ex z ic ir =
        let here = there up (suc i) r (s, j) z in
        elim (ir z) [ inl t ↦ inl (next y here t) | inr t ↦ inr (behind y here t) ]

-- where a node stands whose parent is known
pub record Below (t : TreeShape) (m q : ℕ) : Type 0 where
  pub there : has (is_shape q) t.rows ≡ true
  pub inside : (n : ℕ) → (m == n) ≡ false → in_subtree shapes n t.rows m ≡ in_subtree shapes n t.rows q
  pub higher : depth_of q t.rows < depth_of m t.rows
  pub seat : seat_of shapes m t.rows ≡ Some (Some q, index_in m (numbers (children_at (is_shape q) t.rows)))

seat_known : (o : Option (Option ℕ × ℕ)) (up : Option ℕ) → option_map (λ (s : Option ℕ × ℕ). s.0) o ≡ Some up → (j : ℕ) × (o ≡ Some (up, j))
seat_known None up e = absurd cc
seat_known (Some s) up e = (s.1, ap (λ (u : Option ℕ). Some (u, s.1)) (same s.0 up e))
  where
    same : (x y : Option ℕ) → Some x ≡ Some y → x ≡ y
    same x y e = cc

pub has_parent : (t : TreeShape) (m q : ℕ) → IsLawful t → parent_of m t ≡ Some (Some q) → Below t m q
has_parent t m q lawful e =
    let seat = seat_known (seat_of shapes m t.rows) (Some q) e in
    elim (seated m None 0 t.rows lawful.once (Some q) seat.0 seat.1) [ inl x ↦ absurd (root x.same) | inr x ↦ under seat.0 seat.1 x ]
  where
    root : Some q ≡ None → ⊥
    root e = cc

    number : (x y : ℕ) → Some x ≡ Some y → x ≡ y
    number x y e = cc

    under : (j : ℕ) → seat_of shapes m t.rows ≡ Some (Some q, j) → Under m t.rows (Some q) j → Below t m q
    under j s x =
        subst (λ p. Below t m p) (sym (number q x.parent x.named)) (record {
          there = has-count (is_shape x.parent) t.rows x.there;
          inside = λ n ne. same_has (is_shape m) (is_shape x.parent) (pick (is_shape n) t.rows) (pick (is_shape n) t.rows) (x.inside n ne);
          higher = x.higher;
          seat = s ∙ ap (λ (u : Option ℕ). Some (u, j)) x.named ∙ ap (λ (k : ℕ). Some (Some x.parent, k)) x.index;
        })

-- a node without a parent is in no other subtree
pub at_root : (t : TreeShape) (m n : ℕ) → IsLawful t → parent_of m t ≡ Some None → (m == n) ≡ false → in_subtree shapes n t.rows m ≡ false
at_root t m n lawful e ne =
    let seat = seat_known (seat_of shapes m t.rows) None e in
    elim (seated m None 0 t.rows lawful.once None seat.0 seat.1) [ inl x ↦ not_there (is_shape m) (pick (is_shape n) t.rows) (x.outside n ne) | inr x ↦ absurd (root x.parent x.named) ]
  where
    root : (q : ℕ) → None ≡ Some q → ⊥
    root q e = cc

-- and has no place among children
pub root_seat : (t : TreeShape) (m p i : ℕ) → parent_of m t ≡ Some None → false ≡ is_seat p i (seat_of shapes m t.rows)
root_seat t m p i e =
    let seat = seat_known (seat_of shapes m t.rows) None e in
    ap (is_seat p i) (sym seat.1)

-- the place of another among the children of its parent
pub other_seat : (t : TreeShape) (m q p i : ℕ) → IsLawful t → parent_of m t ≡ Some (Some q) → (q == p) ≡ false → false ≡ is_seat p i (seat_of shapes m t.rows)
other_seat t m q p i lawful e ne =
    ap (λ (b : Bool). b && (index_in m (numbers (children_at (is_shape q) t.rows)) == i)) (sym ne)
    ∙ ap (is_seat p i) (sym (has_parent t m q lawful e).seat)

pub seat_is : (t : TreeShape) (m p i : ℕ) → IsLawful t → parent_of m t ≡ Some (Some p) → (index_in m (numbers (children_at (is_shape p) t.rows)) == i) ≡ is_seat p i (seat_of shapes m t.rows)
seat_is t m p i lawful e =
    ap (λ (b : Bool). b && (index_in m (numbers (children_at (is_shape p) t.rows)) == i)) (sym (eq-eqb p p refl))
    ∙ ap (is_seat p i) (sym (has_parent t m p lawful e).seat)

-- a node is in its own subtree
pub own_subtree : (t : TreeShape) (m : ℕ) → has (is_shape m) t.rows ≡ true → in_subtree shapes m t.rows m ≡ true
own_subtree t m h =
    let l = count-has (is_shape m) t.rows h in
    has-count (is_shape m) (pick (is_shape m) t.rows) (omega (arith, l, count-parts (is_shape m) (is_shape m) t.rows, count-take_out (is_shape m) t.rows))
