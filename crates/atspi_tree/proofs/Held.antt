-- What a table that holds a forest says, and how it holds the forest after an addition and after a change of one row.
use Rattle.std.proofs.Common.{◌≡◌, ℕ, zero, suc, ◌+◌, ◌≤◌, ◌==◌, Bool, true, false, cond, Option, Some, None, List, [], ◌∷◌, ◌++◌, take, drop, refl, sym, ap, ◌∙◌, subst, arith}
use Rattle.std.specs.Prelude.{insert}
use Rattle.std.proofs.lemmas.Bool.{eqb-true}
use Rattle.std.proofs.lemmas.List.{append-nil}
use Rattle.atspi_tree_model.specs.Forest.{Forest, nil, tree, count, has, find, place, children_at, first_of, grow, join, put_at, put_if, put_in, relabel, change}
use Rattle.atspi_tree_model.specs.Row.{ShapeRow}
use Rattle.atspi_tree_model.specs.Tree.{is_shape}
use Rattle.atspi_tree.specs.TreeShape.{numbers}
use Rattle.atspi_tree.specs.Table.{Kept, HoldsBelow, row_or, children_or, row_by, children_by, with_child}

-- a table that holds a forest grows it
pub grown : (look : ℕ → Option Kept) (n : ℕ) (up : Option ℕ) (f : Forest ShapeRow) → count (λ row. true) f ≤ n → HoldsBelow look up f
    → relabel (row_by look) (grow n (children_by look) (numbers f)) ≡ f
grown look zero up nil l h = refl
grown look (suc n) up nil l h = refl
grown look zero up (tree a c r) l h = absurd (omega arith)
grown look (suc n) up (tree a c r) l h =
    rw (row_is, children_are, grown look n (Some a.node) c (omega arith) h.1) (ap (tree a c) (grown look (suc n) up r (omega arith) h.2))
  where
    row_is : row_by look a.node ≡ a
    row_is = ap (row_or a.node) h.0

    children_are : children_by look a.node ≡ numbers c
    children_are = ap children_or h.0

numbers-join : (f g : Forest ShapeRow) → numbers (join f g) ≡ numbers f ++ numbers g
numbers-join nil g = refl
numbers-join (tree a c r) g = ap (λ l. a.node ∷ l) (numbers-join r g)

pub numbers-put_at : (i : ℕ) (g f : Forest ShapeRow) → numbers (put_at i g f) ≡ take i (numbers f) ++ (numbers g ++ drop i (numbers f))
numbers-put_at zero g nil = sym (append-nil (numbers g))
numbers-put_at (suc i) g nil = sym (append-nil (numbers g))
numbers-put_at zero g (tree a c r) = numbers-join g (tree a c r)
numbers-put_at (suc i) g (tree a c r) = ap (λ l. a.node ∷ l) (numbers-put_at i g r)

pub numbers-put_in : (q : ShapeRow → Bool) (i : ℕ) (g f : Forest ShapeRow) → numbers (put_in q (Some i) g f) ≡ numbers f
numbers-put_in q i g nil = refl
numbers-put_in q i g (tree a c r) = ap (λ l. a.node ∷ l) (numbers-put_in q i g r)

pub holds-join : (look : ℕ → Option Kept) (up : Option ℕ) (f g : Forest ShapeRow) → HoldsBelow look up f → HoldsBelow look up g → HoldsBelow look up (join f g)
holds-join look up nil g h k = k
holds-join look up (tree a c r) g h k = (h.0, h.1, holds-join look up r g h.2 k)

pub holds-put_at : (look : ℕ → Option Kept) (up : Option ℕ) (i : ℕ) (g f : Forest ShapeRow) → HoldsBelow look up g → HoldsBelow look up f → HoldsBelow look up (put_at i g f)
holds-put_at look up zero g nil k h = k
holds-put_at look up (suc i) g nil k h = k
holds-put_at look up zero g (tree a c r) k h = holds-join look up g (tree a c r) k h
holds-put_at look up (suc i) g (tree a c r) k h = (h.0, h.1, holds-put_at look up i g r k h.2)

-- what a new node x below p changes in a table
pub record Adds (look look' : ℕ → Option Kept) (p i : ℕ) (row : ShapeRow) : Type 0 where
  pub new : look' row.node ≡ Some (record { row = row; children = []; parent = Some p })
  pub parent : (k : Kept) → look p ≡ Some k → look' p ≡ Some (with_child i row.node k)
  pub others : (n : ℕ) → (n == p) ≡ false → (n == row.node) ≡ false → look' n ≡ look n

module _ (look look' : ℕ → Option Kept) (p i : ℕ) (row : ShapeRow) (d : Adds look look' p i row) where
  -- what is said of one node, which is the parent or another
  at_node : (up : Option ℕ) (a : ShapeRow) (c c' : Forest ShapeRow) (b : Bool) → (a.node == p) ≡ b → (a.node == row.node) ≡ false → numbers c' ≡ numbers c
      → look a.node ≡ Some (record { row = a; children = numbers c; parent = up })
      → look' a.node ≡ Some (record { row = a; children = numbers (put_if b (Some i) (tree row nil nil) c'); parent = up })
  at_node up a c c' true e ne t h =
      let same : a.node ≡ p = eqb-true a.node p e in
      let k : look' a.node ≡ Some (with_child i row.node (record { row = a; children = numbers c; parent = up })) =
      (let z = d.parent (record { row = a; children = numbers c; parent = up }) (subst (λ n. look n ≡ Some (record { row = a; children = numbers c; parent = up })) same h) in subst (λ n. look' n ≡ Some (with_child i row.node (record { row = a; children = numbers c; parent = up }))) (sym same) z) in
      k ∙ ap (λ (l : List ℕ). Some (record { row = a; children = l; parent = up })) (put_there c c' t)
    where
      put_there : (c c' : Forest ShapeRow) → numbers c' ≡ numbers c → insert (numbers c) i row.node ≡ numbers (put_at i (tree row nil nil) c')
      put_there c c' t = subst (λ l. insert l i row.node ≡ numbers (put_at i (tree row nil nil) c')) t (sym (numbers-put_at i (tree row nil nil) c'))
  at_node up a c c' false e ne t h = d.others a.node e ne ∙ (h ∙ ap (λ (l : List ℕ). Some (record { row = a; children = l; parent = up })) (sym t))

  -- the new node stands below p alone
  put_below : (a : ShapeRow) (c : Forest ShapeRow) (b : Bool) → (a.node == p) ≡ b → HoldsBelow look' (Some a.node) c → HoldsBelow look' (Some a.node) (put_if b (Some i) (tree row nil nil) c)
  put_below a c true e h =
      holds-put_at look' (Some a.node) i (tree row nil nil) c
      (subst (λ n. look' row.node ≡ Some (record { row = row; children = []; parent = Some n })) (sym (eqb-true a.node p e)) d.new, tt, tt) h
  put_below a c false e h = h

  pub holds-add : (up : Option ℕ) (f : Forest ShapeRow) → count (is_shape row.node) f ≡ 0 → HoldsBelow look up f
      → HoldsBelow look' up (put_in (is_shape p) (Some i) (tree row nil nil) f)
  holds-add up nil z h = tt
  holds-add up (tree a c r) z h = (
    at_node up a c (put_in (is_shape p) (Some i) (tree row nil nil) c) (a.node == p) refl (not_new a c r z) (numbers-put_in (is_shape p) i (tree row nil nil) c) h.0,
    put_below a (put_in (is_shape p) (Some i) (tree row nil nil) c) (a.node == p) refl (holds-add (Some a.node) c (omega arith) h.1),
    holds-add up r (omega arith) h.2,
  )
    where
      not_new : (a : ShapeRow) (c r : Forest ShapeRow) → cond (a.node == row.node) 1 0 + (count (is_shape row.node) c + count (is_shape row.node) r) ≡ 0 → (a.node == row.node) ≡ false
      not_new a c r z = by (a.node == row.node) z
        where
          by : (b : Bool) → cond b 1 0 + (count (is_shape row.node) c + count (is_shape row.node) r) ≡ 0 → b ≡ false
          by true y = absurd (omega arith)
          by false y = refl

-- one row changes
pub numbers-change : (n : ℕ) (h : ShapeRow → ShapeRow) → ((a : ShapeRow) → (h a).node ≡ a.node) → (f : Forest ShapeRow) → numbers (change (is_shape n) h f) ≡ numbers f
numbers-change n h s nil = refl
numbers-change n h s (tree a c r) = rw (node_at (a.node == n), numbers-change n h s r) refl
  where
    node_at : (b : Bool) → (cond b (h a) a).node ≡ a.node
    node_at true = s a
    node_at false = refl

module _ (look look' : ℕ → Option Kept) (n : ℕ) (h : ShapeRow → ShapeRow) (s : (a : ShapeRow) → (h a).node ≡ a.node)
    (here : (k : Kept) → look n ≡ Some k → look' n ≡ Some (record k { row = h k.row }))
    (others : (m : ℕ) → (m == n) ≡ false → look' m ≡ look m) where
  changed_at : (up : Option ℕ) (a : ShapeRow) (ks : List ℕ) (b : Bool) → (a.node == n) ≡ b → look a.node ≡ Some (record { row = a; children = ks; parent = up })
      → look' (cond b (h a) a).node ≡ Some (record { row = cond b (h a) a; children = ks; parent = up })
  changed_at up a ks true e k =
      let same : a.node ≡ n = eqb-true a.node n e in
      subst (λ m. look' m ≡ Some (record { row = h a; children = ks; parent = up })) (sym (s a ∙ same))
      (here (record { row = a; children = ks; parent = up }) (subst (λ m. look m ≡ Some (record { row = a; children = ks; parent = up })) same k))
  changed_at up a ks false e k = others a.node e ∙ k

  pub holds-change : (up : Option ℕ) (f : Forest ShapeRow) → HoldsBelow look up f → HoldsBelow look' up (change (is_shape n) h f)
  holds-change up nil k = tt
  holds-change up (tree a c r) k = (
    rw (numbers-change n h s c) (changed_at up a (numbers c) (a.node == n) refl k.0),
    subst (λ m. HoldsBelow look' (Some m) (change (is_shape n) h c)) (sym (node_at (a.node == n))) (holds-change (Some a.node) c k.1),
    holds-change up r k.2,
  )
    where
      node_at : (b : Bool) → (cond b (h a) a).node ≡ a.node
      node_at true = s a
      node_at false = refl

-- look-ups that agree
pub holds-same : (look look' : ℕ → Option Kept) (up : Option ℕ) (f : Forest ShapeRow) → ((n : ℕ) → look' n ≡ look n) → HoldsBelow look up f → HoldsBelow look' up f
holds-same look look' up nil w h = tt
holds-same look look' up (tree a c r) w h = (w a.node ∙ h.0, holds-same look look' (Some a.node) c w h.1, holds-same look look' up r w h.2)

-- where a node is there, its row, its place and what the table says of it
pub record Found (look : ℕ → Option Kept) (up : Option ℕ) (i : ℕ) (n : ℕ) (f : Forest ShapeRow) : Type 0 where
  pub row : ShapeRow
  pub parent : Option ℕ
  pub index : ℕ
  pub is_row : find (is_shape n) f ≡ Some row
  pub is_seat : place (λ (row : ShapeRow). Some row.node) (is_shape n) up i f ≡ Some (parent, index)
  pub is_kept : look n ≡ Some (record { row = row; children = numbers (children_at (is_shape n) f); parent = parent })

pub no_row : {A : Type 0} (p : A → Bool) (f : Forest A) → has p f ≡ false → find p f ≡ None
no_row p nil h = refl
no_row {A = A} p (tree a c r) h = at (p a) (has p c) (has p r) (no_row p c) (no_row p r) h
  where
    at : (b x y : Bool) → (x ≡ false → find p c ≡ None) → (y ≡ false → find p r ≡ None) → cond b true (cond x true y) ≡ false → cond b (Some a) (first_of (find p c) (find p r)) ≡ None
    at true x y hc hr e = cc
    at false true y hc hr e = cc
    at false false y hc hr e = rw (hc refl, hr e) refl

pub no_place : {A B : Type 0} (name : A → B) (p : A → Bool) (up : B) (i : ℕ) (f : Forest A) → has p f ≡ false → place name p up i f ≡ None
no_place name p up i nil h = refl
no_place {A = A} {B = B} name p up i (tree a c r) h = at (p a) (has p c) (has p r) (no_place name p (name a) 0 c) (no_place name p up (suc i) r) h
  where
    at : (b x y : Bool) → (x ≡ false → place name p (name a) 0 c ≡ None) → (y ≡ false → place name p up (suc i) r ≡ None) → cond b true (cond x true y) ≡ false
        → cond b (Some (up, i)) (first_of (place name p (name a) 0 c) (place name p up (suc i) r)) ≡ None
    at true x y hc hr e = cc
    at false true y hc hr e = cc
    at false false y hc hr e = rw (hc refl, hr e) refl

module _ (look : ℕ → Option Kept) (n : ℕ) where
  found_at : (up : Option ℕ) (i : ℕ) (a : ShapeRow) (c r : Forest ShapeRow) (b x : Bool) → (a.node == n) ≡ b → has (is_shape n) c ≡ x
      → look a.node ≡ Some (record { row = a; children = numbers c; parent = up })
      → (x ≡ true → Found look (Some a.node) 0 n c) → (has (is_shape n) r ≡ true → Found look up (suc i) n r)
      → cond b true (cond x true (has (is_shape n) r)) ≡ true
      → Found look up i n (tree a c r)
  found_at up i a c r true x e ec h hc hr t = record {
    row = a;
    parent = up;
    index = i;
    is_row = rw e refl;
    is_seat = rw e refl;
    is_kept = rw e (subst (λ m. look m ≡ Some (record { row = a; children = numbers c; parent = up })) (eqb-true a.node n e) h);
  }
  found_at up i a c r false true e ec h hc hr t =
      let k = hc refl in
      record {
        row = k.row;
        parent = k.parent;
        index = k.index;
        is_row = rw (e, k.is_row) refl;
        is_seat = rw (e, k.is_seat) refl;
        is_kept = rw (e, ec) k.is_kept;
      }
  found_at up i a c r false false e ec h hc hr t =
      let k = hr t in
      record {
        row = k.row;
        parent = k.parent;
        index = k.index;
        is_row = rw (e, no_row (is_shape n) c ec) k.is_row;
        is_seat = rw (e, no_place (λ (row : ShapeRow). Some row.node) (is_shape n) (Some a.node) 0 c ec) k.is_seat;
        is_kept = rw (e, ec) k.is_kept;
      }

  pub found : (up : Option ℕ) (i : ℕ) (f : Forest ShapeRow) → HoldsBelow look up f → has (is_shape n) f ≡ true → Found look up i n f
  found up i nil h t = cc
  found up i (tree a c r) h t =
      found_at up i a c r (a.node == n) (has (is_shape n) c) refl refl h.0 (found (Some a.node) 0 c h.1) (found up (suc i) r h.2) t
