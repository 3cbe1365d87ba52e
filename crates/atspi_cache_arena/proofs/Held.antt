-- How a table holds a forest after one is put into it, taken out of it or moved in it.
use Rattle.std.proofs.Common.{◌≡◌, ◌≢◌, ℕ, zero, suc, ◌+◌, ◌≤◌, ◌==◌, Bool, true, false, cond, Option, Some, None, List, [], ◌∷◌, ◌++◌, take, drop, refl, sym, ap, ◌∙◌, subst, arith}
use Rattle.std.specs.Prelude.{filter, not}
use Rattle.std.proofs.lemmas.Bool.{eqb-true, eq-eqb}
use Rattle.std.proofs.lemmas.List.{append-nil}
use Rattle.atspi_tree_model.specs.Forest.{Forest, nil, tree, count, join, put_at, put_place, put_if, put_in, take_out}
use Rattle.atspi_cache_arena.specs.Keys.{Node, Kept, is_key, keys, HoldsBelow, with_children}
use Rattle.atspi_cache_arena.specs.Table.{is_among, put_among}

pub filter_none : (k : ℕ) (xs : List ℕ) → ((m : ℕ) → is_among m xs ≡ true → m ≢ k) → filter (λ n. not (n == k)) xs ≡ xs
filter_none k [] h = refl
filter_none k (x ∷ xs) h =
    at (x == k) refl (filter_none k xs (λ m e. h m (rw e (last (x == m)))))
  where
    last : (b : Bool) → cond b true true ≡ true
    last true = refl
    last false = refl

    at : (b : Bool) → (x == k) ≡ b → filter (λ n. not (n == k)) xs ≡ xs → cond (not b) (x ∷ filter (λ n. not (n == k)) xs) (filter (λ n. not (n == k)) xs) ≡ x ∷ xs
    at true e z = absurd (h x (rw (eq-eqb x x refl) refl) (eqb-true x k e))
    at false e z = ap (λ l. x ∷ l) z

module _ {R : Type 0} where
  pub keys-join : (f g : Forest (Node R)) → keys (join f g) ≡ keys f ++ keys g
  keys-join nil g = refl
  keys-join (tree a c r) g = ap (λ l. a.key ∷ l) (keys-join r g)

  pub keys-put_at : (i : ℕ) (g f : Forest (Node R)) → keys (put_at i g f) ≡ take i (keys f) ++ (keys g ++ drop i (keys f))
  keys-put_at zero g nil = sym (append-nil (keys g))
  keys-put_at (suc i) g nil = sym (append-nil (keys g))
  keys-put_at zero g (tree a c r) = keys-join g (tree a c r)
  keys-put_at (suc i) g (tree a c r) = ap (λ l. a.key ∷ l) (keys-put_at i g r)

  pub keys-put_place : (at : Option ℕ) (g f : Forest (Node R)) → keys (put_place at g f) ≡ put_among at (keys g) (keys f)
  keys-put_place None g f = keys-join f g
  keys-put_place (Some i) g f = keys-put_at i g f

  pub keys-put_in : (q : Node R → Bool) (i : Option ℕ) (g f : Forest (Node R)) → keys (put_in q i g f) ≡ keys f
  keys-put_in q i g nil = refl
  keys-put_in q i g (tree a c r) = ap (λ l. a.key ∷ l) (keys-put_in q i g r)

  pub keys-take_out : (k : ℕ) (f : Forest (Node R)) → keys (take_out (is_key k) f) ≡ filter (λ n. not (n == k)) (keys f)
  keys-take_out k nil = refl
  keys-take_out k (tree a c r) = at (a.key == k) (keys-take_out k r)
    where
      at : (b : Bool) → keys (take_out (is_key k) r) ≡ filter (λ n. not (n == k)) (keys r)
          → keys (cond b (take_out (is_key k) r) (tree a (take_out (is_key k) c) (take_out (is_key k) r)))
          ≡ cond (not b) (a.key ∷ filter (λ n. not (n == k)) (keys r)) (filter (λ n. not (n == k)) (keys r))
      at true e = e
      at false e = ap (λ l. a.key ∷ l) e

  pub holds-join : (look : ℕ → Option (Kept R)) (up : Option ℕ) (f g : Forest (Node R)) → HoldsBelow look up f → HoldsBelow look up g → HoldsBelow look up (join f g)
  holds-join look up nil g h k = k
  holds-join look up (tree a c r) g h k = (h.0, h.1, holds-join look up r g h.2 k)

  pub holds-put_at : (look : ℕ → Option (Kept R)) (up : Option ℕ) (i : ℕ) (g f : Forest (Node R)) → HoldsBelow look up g → HoldsBelow look up f → HoldsBelow look up (put_at i g f)
  holds-put_at look up zero g nil k h = k
  holds-put_at look up (suc i) g nil k h = k
  holds-put_at look up zero g (tree a c r) k h = holds-join look up g (tree a c r) k h
  holds-put_at look up (suc i) g (tree a c r) k h = (h.0, h.1, holds-put_at look up i g r k h.2)

  pub holds-put_place : (look : ℕ → Option (Kept R)) (up : Option ℕ) (at : Option ℕ) (g f : Forest (Node R)) → HoldsBelow look up g → HoldsBelow look up f → HoldsBelow look up (put_place at g f)
  holds-put_place look up None g f k h = holds-join look up f g h k
  holds-put_place look up (Some i) g f k h = holds-put_at look up i g f k h

  -- a node is counted by its own key
  pub self : (a : Node R) (c r : Forest (Node R)) → 1 ≤ count (is_key a.key) (tree a c r)
  self a c r = let e : cond {A = ℕ} (a.key == a.key) 1 0 ≡ 1 = ap (λ b. cond {A = ℕ} b 1 0) (eq-eqb a.key a.key refl) in omega arith

  -- look-ups that agree at the keys of a forest
  pub holds-same : (look look' : ℕ → Option (Kept R)) (up : Option ℕ) (f : Forest (Node R)) → ((k : ℕ) → 1 ≤ count (is_key k) f → look' k ≡ look k)
      → HoldsBelow look up f → HoldsBelow look' up f
  holds-same look look' up nil w h = tt
  holds-same look look' up (tree a c r) w h =
      (w a.key (self a c r) ∙ h.0, holds-same look look' (Some a.key) c (λ k l. w k (omega arith)) h.1, holds-same look look' up r (λ k l. w k (omega arith)) h.2)

  -- a forest put below p
  module _ (look look' : ℕ → Option (Kept R)) (p : ℕ) (i : Option ℕ) (g : Forest (Node R))
      (below : HoldsBelow look' (Some p) g)
      (parent : (k : Kept R) → look p ≡ Some k → look' p ≡ Some (with_children (put_among i (keys g)) k)) where
    put_node : (up : Option ℕ) (a : Node R) (c c' : Forest (Node R)) (b : Bool) → (a.key == p) ≡ b → (b ≡ false → look' a.key ≡ look a.key) → keys c' ≡ keys c
        → look a.key ≡ Some (record { row = a.row; children = keys c; parent = up })
        → look' a.key ≡ Some (record { row = a.row; children = keys (put_if b i g c'); parent = up })
    put_node up a c c' true e o t h =
        let same : a.key ≡ p = eqb-true a.key p e in
        let z = parent (record { row = a.row; children = keys c; parent = up }) (subst (λ n. look n ≡ Some (record { row = a.row; children = keys c; parent = up })) same h) in
        subst (λ n. look' n ≡ Some (record { row = a.row; children = put_among i (keys g) (keys c); parent = up })) (sym same) z
        ∙ ap (λ (l : List ℕ). Some (record { row = a.row; children = l; parent = up })) (ap (put_among i (keys g)) (sym t) ∙ sym (keys-put_place i g c'))
    put_node up a c c' false e o t h = o refl ∙ (h ∙ ap (λ (l : List ℕ). Some (record { row = a.row; children = l; parent = up })) (sym t))

    put_below : (a : Node R) (c : Forest (Node R)) (b : Bool) → (a.key == p) ≡ b → HoldsBelow look' (Some a.key) c → HoldsBelow look' (Some a.key) (put_if b i g c)
    put_below a c true e h = holds-put_place look' (Some a.key) i g c (subst (λ n. HoldsBelow look' (Some n) g) (sym (eqb-true a.key p e)) below) h
    put_below a c false e h = h

    pub holds-put : (up : Option ℕ) (f : Forest (Node R)) → ((k : ℕ) → 1 ≤ count (is_key k) f → (k == p) ≡ false → look' k ≡ look k)
        → HoldsBelow look up f → HoldsBelow look' up (put_in (is_key p) i g f)
    holds-put up nil o h = tt
    holds-put up (tree a c r) o h = (
      put_node up a c (put_in (is_key p) i g c) (a.key == p) refl (λ e. o a.key (self a c r) e) (keys-put_in (is_key p) i g c) h.0,
      put_below a (put_in (is_key p) i g c) (a.key == p) refl (holds-put (Some a.key) c (λ k l. o k (omega arith)) h.1),
      holds-put up r (λ k l. o k (omega arith)) h.2,
    )

  -- a subtree taken out
  module _ (look look' : ℕ → Option (Kept R)) (k : ℕ) where
    taken_at : (up : Option ℕ) (a : Node R) (c r : Forest (Node R)) (b : Bool) → (a.key == k) ≡ b
        → HoldsBelow look up (tree a c r)
        → ((n : ℕ) → 1 ≤ count (is_key n) (cond b (take_out (is_key k) r) (tree a (take_out (is_key k) c) (take_out (is_key k) r)))
        → (x : Kept R) → look n ≡ Some x → look' n ≡ Some (with_children (filter (λ m. not (m == k))) x))
        → (((n : ℕ) → 1 ≤ count (is_key n) (take_out (is_key k) c) → (x : Kept R) → look n ≡ Some x → look' n ≡ Some (with_children (filter (λ m. not (m == k))) x)) → HoldsBelow look' (Some a.key) (take_out (is_key k) c))
        → (((n : ℕ) → 1 ≤ count (is_key n) (take_out (is_key k) r) → (x : Kept R) → look n ≡ Some x → look' n ≡ Some (with_children (filter (λ m. not (m == k))) x)) → HoldsBelow look' up (take_out (is_key k) r))
        → HoldsBelow look' up (cond b (take_out (is_key k) r) (tree a (take_out (is_key k) c) (take_out (is_key k) r)))
    taken_at up a c r true e h w hc hr = hr w
    taken_at up a c r false e h w hc hr = (
      w a.key (self a (take_out (is_key k) c) (take_out (is_key k) r)) _ h.0
          ∙ ap (λ (l : List ℕ). Some (record { row = a.row; children = l; parent = up })) (sym (keys-take_out k c)),
      hc (λ n l. w n (omega arith)),
      hr (λ n l. w n (omega arith)),
    )

    pub holds-take_out : (up : Option ℕ) (f : Forest (Node R))
        → ((n : ℕ) → 1 ≤ count (is_key n) (take_out (is_key k) f) → (x : Kept R) → look n ≡ Some x → look' n ≡ Some (with_children (filter (λ m. not (m == k))) x))
        → HoldsBelow look up f → HoldsBelow look' up (take_out (is_key k) f)
    holds-take_out up nil w h = tt
    holds-take_out up (tree a c r) w h =
        taken_at up a c r (a.key == k) refl h w (λ v. holds-take_out (Some a.key) c v h.1) (λ v. holds-take_out up r v h.2)

  -- the keys at the top have the parent that was handed in
  pub top_parent : (look : ℕ → Option (Kept R)) (up : Option ℕ) (f : Forest (Node R)) → HoldsBelow look up f → (m : ℕ) → is_among m (keys f) ≡ true
      → (x : Kept R) × (look m ≡ Some x) × (x.parent ≡ up)
  top_parent look up nil h m e = cc
  top_parent look up (tree a c r) h m e = at (a.key == m) refl (λ z. top_parent look up r h.2 m z) e
    where
      at : (b : Bool) → (a.key == m) ≡ b → (is_among m (keys r) ≡ true → (x : Kept R) × (look m ≡ Some x) × (x.parent ≡ up)) → cond b true (is_among m (keys r)) ≡ true
          → (x : Kept R) × (look m ≡ Some x) × (x.parent ≡ up)
      at true e ih z = (record { row = a.row; children = keys c; parent = up }, subst (λ n. look n ≡ Some (record { row = a.row; children = keys c; parent = up })) (eqb-true a.key m e) h.0, refl)
      at false e ih z = ih z

  -- each child of a node has that node as its parent
  pub child_parent : (look : ℕ → Option (Kept R)) (up : Option ℕ) (f : Forest (Node R)) → HoldsBelow look up f → (n : ℕ) → 1 ≤ count (is_key n) f → (x : Kept R) → look n ≡ Some x
      → (m : ℕ) → is_among m x.children ≡ true → (y : Kept R) × (look m ≡ Some y) × (y.parent ≡ Some n)
  child_parent look up nil h n l x e m z = absurd (omega arith)
  child_parent look up (tree a c r) h n l x e m z =
      at (a.key == n) refl (count (is_key n) c) refl l (λ l. child_parent look (Some a.key) c h.1 n l x e m z) (λ l. child_parent look up r h.2 n l x e m z)
    where
      at : (b : Bool) → (a.key == n) ≡ b → (i : ℕ) → count (is_key n) c ≡ i → 1 ≤ cond b 1 0 + (count (is_key n) c + count (is_key n) r)
          → (1 ≤ count (is_key n) c → (y : Kept R) × (look m ≡ Some y) × (y.parent ≡ Some n)) → (1 ≤ count (is_key n) r → (y : Kept R) × (look m ≡ Some y) × (y.parent ≡ Some n))
          → (y : Kept R) × (look m ≡ Some y) × (y.parent ≡ Some n)
      at true eb i ei l hc hr =
          let same = eqb-true a.key n eb in
          let w : Some x ≡ Some (record { row = a.row; children = keys c; parent = up }) = sym e ∙ (ap look (sym same) ∙ h.0) in
          let kids : x.children ≡ keys c = cc in
          subst (λ (k : ℕ). (y : Kept R) × (look m ≡ Some y) × (y.parent ≡ Some k)) same (top_parent look (Some a.key) c h.1 m (subst (λ l. is_among m l ≡ true) kids z))
      at false eb (suc i) ei l hc hr = hc (omega arith)
      at false eb zero ei l hc hr = hr (omega arith)
