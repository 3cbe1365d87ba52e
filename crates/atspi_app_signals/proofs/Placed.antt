-- A node that stands once in a tree: what is found of it, what is below it, and the same after it was moved.
use Rattle.std.proofs.Common.{◌≡◌, ℕ, zero, suc, ◌+◌, ◌≤◌, Bool, true, false, cond, List, [], ◌∷◌, ◌++◌, map, Option, Some, None, refl, sym, ap, ◌∙◌, true≢false, arith}
use Rattle.std.proofs.lemmas.Bool.{eqb-true}
use Rattle.std.proofs.lemmas.List.{map-append, append-nil}
use Rattle.atspi_tree_model.specs.declared.step.Step.TheVariants.{Move}
use Rattle.atspi_tree_model.specs.Forest.{Forest, nil, tree, join, labels, count, has, put_at, put_if, put_in, take_out, pick, find, first_of, children_at, seats}
use Rattle.atspi_tree_model.specs.Row.{ShapeRow, TreeRow}
use Rattle.atspi_tree_model.specs.RowRules.{RowRules}
use Rattle.atspi_tree_model.specs.Tree.{is_number, is_shape, shape_of, after, IsTree, Moves}
use Rattle.atspi_tree_model.proofs.Found.{count-has, has-count, not_there, find-passes}
use Rattle.atspi_tree_model.proofs.Counts.{count-parts}
use Rattle.atspi_tree_model.proofs.Seats.{put_in-none, pick-none, count-take_out}
use Rattle.atspi_tree.specs.Seats.{seat_at, seats_below}
use Rattle.atspi_tree.specs.TreeShape.{TreeShape}
use Rattle.atspi_tree.specs.declared.seats.Seat.{Seat}

uncounted : {A : Type 0} (p : A → Bool) (f : Forest A) → has p f ≡ false → count p f ≡ 0
uncounted p f e = at (count p f) refl
  where
    at : (n : ℕ) → count p f ≡ n → count p f ≡ 0
    at zero c = c
    at (suc n) c = absurd (true≢false (sym (has-count p f (omega arith)) ∙ e))

module _ {A : Type 0} (p : A → Bool) where
  unfound : (f : Forest A) → count p f ≡ 0 → find p f ≡ None
  unfound f z = at (find p f) refl
    where
      at : (o : Option A) → find p f ≡ o → find p f ≡ None
      at None e = e
      at (Some x) e = absurd (omega (arith, z, (find-passes p f x e).1))

  -- the first node that passes, and its children
  pub record First (f : Forest A) (a : A) (c : Forest A) : Type 0 where
    pub found : find p f ≡ Some a
    pub children : children_at p f ≡ c
    pub there : has p f ≡ true

  first_here : (a : A) (c r : Forest A) → p a ≡ true → First (tree a c r) a c
  first_here a c r e = record {
    found = ap (λ b. cond b (Some a) (first_of (find p c) (find p r))) e;
    children = ap (λ b. cond b c (cond (has p c) (children_at p c) (children_at p r))) e;
    there = ap (λ b. cond b true (cond (has p c) true (has p r))) e;
  }

  first_below : (x : A) (d r : Forest A) (a : A) (c : Forest A) → p x ≡ false → First d a c → First (tree x d r) a c
  first_below x d r a c e k = record {
    found = ap (λ b. cond b (Some x) (first_of (find p d) (find p r))) e ∙ ap (λ o. first_of o (find p r)) k.found;
    children =
        ap (λ b. cond b d (cond (has p d) (children_at p d) (children_at p r))) e
        ∙ ap (λ b. cond b (children_at p d) (children_at p r)) k.there ∙ k.children;
    there = ap (λ b. cond b true (cond (has p d) true (has p r))) e ∙ ap (λ b. cond b true (has p r)) k.there;
  }

  first_behind : (x : A) (d r : Forest A) (a : A) (c : Forest A) → p x ≡ false → count p d ≡ 0 → First r a c → First (tree x d r) a c
  first_behind x d r a c e z k =
      let no = not_there p d z in
      record {
        found = ap (λ b. cond b (Some x) (first_of (find p d) (find p r))) e ∙ ap (λ o. first_of o (find p r)) (unfound d z) ∙ k.found;
        children =
            ap (λ b. cond b d (cond (has p d) (children_at p d) (children_at p r))) e
            ∙ ap (λ b. cond b (children_at p d) (children_at p r)) no ∙ k.children;
        there = ap (λ b. cond b true (cond (has p d) true (has p r))) e ∙ ap (λ b. cond b true (has p r)) no ∙ k.there;
      }

  not_top : (b : Bool) (m n : ℕ) → cond b 1 0 + (m + n) ≡ 0 → b ≡ false
  not_top true m n e = absurd (omega arith)
  not_top false m n e = refl

  -- a tree that is put somewhere
  first_put_at : (i : ℕ) (a : A) (c h : Forest A) → p a ≡ true → count p h ≡ 0 → First (put_at i (tree a c nil) h) a c
  first_put_at zero a c nil e z = first_here a c nil e
  first_put_at (suc i) a c nil e z = first_here a c nil e
  first_put_at zero a c (tree x d r) e z = first_here a c (tree x d r) e
  first_put_at (suc i) a c (tree x d r) e z =
      first_behind x d (put_at i (tree a c nil) r) a c (not_top (p x) (count p d) (count p r) z) (omega arith) (first_put_at i a c r e (omega arith))

  module _ (q : A → Bool) (i : ℕ) (a : A) (c : Forest A) (e : p a ≡ true) where
    first_put_in : (h : Forest A) → count p h ≡ 0 → count q h ≤ 1 → 1 ≤ count q h → First (put_in q (Some i) (tree a c nil) h) a c
    first_put_in nil z once some = absurd (omega arith)
    first_put_in (tree x d r) z once some = at (q x) refl (has q d) refl (first_put_in d) (first_put_in r)
      where
        out : p x ≡ false
        out = not_top (p x) (count p d) (count p r) z

        at : (b : Bool) → q x ≡ b → (h : Bool) → has q d ≡ h
            → (count p d ≡ 0 → count q d ≤ 1 → 1 ≤ count q d → First (put_in q (Some i) (tree a c nil) d) a c)
            → (count p r ≡ 0 → count q r ≤ 1 → 1 ≤ count q r → First (put_in q (Some i) (tree a c nil) r) a c)
            → First (tree x (put_if (q x) (Some i) (tree a c nil) (put_in q (Some i) (tree a c nil) d)) (put_in q (Some i) (tree a c nil) r)) a c
        at true is h there below behind =
            let o : cond {A = ℕ} (q x) 1 0 ≡ 1 = ap (λ b. cond {A = ℕ} b 1 0) is in
            let none : put_in q (Some i) (tree a c nil) d ≡ d = put_in-none q (Some i) (tree a c nil) d (omega arith) in
            first_below x (put_if (q x) (Some i) (tree a c nil) (put_in q (Some i) (tree a c nil) d)) (put_in q (Some i) (tree a c nil) r) a c out
            (rw (is, none) (first_put_at i a c d e (omega arith)))
        at false is true there below behind =
            let some_below = count-has q d there in
            first_below x (put_if (q x) (Some i) (tree a c nil) (put_in q (Some i) (tree a c nil) d)) (put_in q (Some i) (tree a c nil) r) a c out
            (rw is (below (omega arith) (omega arith) some_below))
        at false is false there below behind =
            let z' = uncounted q d there in
            let o : cond {A = ℕ} (q x) 1 0 ≡ 0 = ap (λ b. cond {A = ℕ} b 1 0) is in
            let none : put_in q (Some i) (tree a c nil) d ≡ d = put_in-none q (Some i) (tree a c nil) d z' in
            first_behind x (put_if (q x) (Some i) (tree a c nil) (put_in q (Some i) (tree a c nil) d)) (put_in q (Some i) (tree a c nil) r) a c out
            (rw (is, none) (omega arith)) (behind (omega arith) (omega arith) (omega arith))

  -- the only node that passes, alone with what is below it
  pub record Picked (f : Forest A) : Type 0 where
    pub label : A
    pub below : Forest A
    pub passes : p label ≡ true
    pub picked : pick p f ≡ tree label below nil
    pub first : First f label below

  pub picked_one : (f : Forest A) → count p f ≡ 1 → Picked f
  picked_one nil e = absurd (omega arith)
  picked_one (tree x d r) e = at (p x) refl (has p d) refl (picked_one d) (picked_one r)
    where
      at : (b : Bool) → p x ≡ b → (h : Bool) → has p d ≡ h → (count p d ≡ 1 → Picked d) → (count p r ≡ 1 → Picked r) → Picked (tree x d r)
      at true is h there below_one behind_one =
          let o : cond {A = ℕ} (p x) 1 0 ≡ 1 = ap (λ b. cond {A = ℕ} b 1 0) is in
          record {
            label = x;
            below = d;
            passes = is;
            picked = ap (λ b. cond b (tree x d (pick p r)) (join (pick p d) (pick p r))) is ∙ ap (λ g. tree x d g) (pick-none p r (omega arith));
            first = first_here x d r is;
          }
      at false is true there below_one behind_one =
          let some = count-has p d there in
          let k = below_one (omega arith) in
          record {
            label = k.label;
            below = k.below;
            passes = k.passes;
            picked = ap (λ b. cond b (tree x d (pick p r)) (join (pick p d) (pick p r))) is ∙ ap (λ g. join g (pick p r)) k.picked
                ∙ ap (λ g. tree k.label k.below g) (pick-none p r (omega arith));
            first = first_below x d r k.label k.below is k.first;
          }
      at false is false there below_one behind_one =
          let z = uncounted p d there in
          let o : cond {A = ℕ} (p x) 1 0 ≡ 0 = ap (λ b. cond {A = ℕ} b 1 0) is in
          let k = behind_one (omega arith) in
          record {
            label = k.label;
            below = k.below;
            passes = k.passes;
            picked = ap (λ b. cond b (tree x d (pick p r)) (join (pick p d) (pick p r))) is ∙ ap (λ g. join g (pick p r)) (pick-none p d z) ∙ k.picked;
            first = first_behind x d r k.label k.below is z k.first;
          }

-- a node that is moved is found as before, with the same below it
pub moved_first : {A : Type 0} (rules : RowRules A) (f : Forest A) (k n q i : ℕ) → IsTree rules f k → Moves rules f n q i
    → (a : A) × (c : Forest A) × First (is_number rules n) f a c × First (is_number rules n) (after rules f (Move n q i)) a c
moved_first rules f k n q i t m =
    let one : count (is_number rules n) f ≡ 1 = let some = count-has (is_number rules n) f m.there in let once = t.once n in omega arith in
    let x = picked_one (is_number rules n) f one in
    let out = count-take_out (is_number rules n) f in
    let parts = count-parts (is_number rules q) (is_number rules n) f in
    let few = t.once q in
    let some = count-has (is_number rules q) (take_out (is_number rules n) f) m.no_cycle in (
      x.label,
      x.below,
      x.first,
      rw (x.picked) (first_put_in (is_number rules n) (is_number rules q) i x.label x.below x.passes (take_out (is_number rules n) f) out (omega arith) some),
    )

-- the numbers of a forest, at their places and as they are
seat_nodes : (g : Forest ShapeRow) (up : Option ℕ) (i : ℕ) → map (λ (s : Seat). s.node) (map seat_at (seats (λ row. Some row.node) up i g)) ≡ map (λ (row : ShapeRow). row.node) (labels g)
seat_nodes nil up i = refl
seat_nodes (tree a c r) up i =
    ap (λ l. a.node ∷ l)
    (ap (map (λ (s : Seat). s.node)) (map-append seat_at (seats (λ row. Some row.node) (Some a.node) 0 c) (seats (λ row. Some row.node) up (suc i) r))
    ∙ map-append (λ (s : Seat). s.node) (map seat_at (seats (λ row. Some row.node) (Some a.node) 0 c)) (map seat_at (seats (λ row. Some row.node) up (suc i) r))
    ∙ ap (λ l. l ++ map (λ (s : Seat). s.node) (map seat_at (seats (λ row. Some row.node) up (suc i) r))) (seat_nodes c (Some a.node) 0)
    ∙ ap (λ l. map (λ (row : ShapeRow). row.node) (labels c) ++ l) (seat_nodes r up (suc i))
    ∙ sym (map-append (λ (row : ShapeRow). row.node) (labels c) (labels r)))

pub map-map : {A B C : Type 0} (g : B → C) (h : A → B) (xs : List A) → map g (map h xs) ≡ map (λ x. g (h x)) xs
map-map g h [] = refl
map-map g h (x ∷ xs) = ap (λ l. g (h x) ∷ l) (map-map g h xs)

-- a node and those below it, told by their numbers
pub subtree_told : {B : Type 0} (tell : ℕ → B) (t : TreeShape) (n : ℕ) → count (is_shape n) t.rows ≡ 1
    → map (λ (row : ShapeRow). tell row.node) (labels (pick (is_shape n) t.rows)) ≡ tell n ∷ map (λ (s : Seat). tell s.node) (seats_below n t)
subtree_told tell t n one =
    let x = picked_one (is_shape n) t.rows one in
    ap (λ (g : Forest ShapeRow). map (λ (row : ShapeRow). tell row.node) (labels g)) x.picked
    ∙ ap (λ l. tell x.label.node ∷ map (λ (row : ShapeRow). tell row.node) l) (append-nil (labels x.below))
    ∙ ap (λ m. tell m ∷ map (λ (row : ShapeRow). tell row.node) (labels x.below)) (eqb-true x.label.node n x.passes)
    ∙ ap (λ l. tell n ∷ l)
    (sym (map-map tell (λ (row : ShapeRow). row.node) (labels x.below))
    ∙ ap (map tell) (sym (seat_nodes x.below (Some n) 0) ∙ ap (λ (g : Forest ShapeRow). map (λ (s : Seat). s.node) (map seat_at (seats (λ row. Some row.node) (Some n) 0 g))) (sym x.first.children))
    ∙ map-map tell (λ (s : Seat). s.node) (seats_below n t))

-- the labels of a shape are the shapes of the labels
pub shape_labels : (f : Forest TreeRow) → labels (shape_of f) ≡ map (λ (row : TreeRow). row.shape) (labels f)
shape_labels nil = refl
shape_labels (tree a c r) =
    ap (λ l. a.shape ∷ l ++ labels (shape_of r)) (shape_labels c) ∙ ap (λ l. a.shape ∷ map (λ (row : TreeRow). row.shape) (labels c) ++ l) (shape_labels r)
    ∙ ap (λ l. a.shape ∷ l) (sym (map-append (λ (row : TreeRow). row.shape) (labels c) (labels r)))

pub shape_told : {B : Type 0} (tell : ℕ → B) (f : Forest TreeRow)
    → map (λ (row : ShapeRow). tell row.node) (labels (shape_of f)) ≡ map (λ (row : TreeRow). tell row.shape.node) (labels f)
shape_told tell f = ap (map (λ (row : ShapeRow). tell row.node)) (shape_labels f) ∙ map-map (λ (row : ShapeRow). tell row.node) (λ (row : TreeRow). row.shape) (labels f)
