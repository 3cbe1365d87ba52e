-- How a table holds a forest when a node goes out of the children of its parent, and into the children of another.
use Rattle.std.proofs.Common.{◌≡◌, ℕ, zero, suc, ◌+◌, ◌≤◌, ◌<◌, ◌==◌, Bool, true, false, cond, not, Option, Some, None, List, [], ◌∷◌, ◌++◌, take, drop, refl, sym, ap, ◌∙◌, subst, arith}
use Rattle.std.specs.Prelude.{insert, length}
use Rattle.std.proofs.lemmas.Bool.{eqb-true, eq-eqb, ne_eqb}
use Rattle.atspi_tree_model.specs.Forest.{Forest, nil, tree, count, has, take_out, pick, join, put_at, put_if, put_in, children_at}
use Rattle.atspi_tree_model.specs.Edits.{is_among}
use Rattle.atspi_tree_model.specs.Row.{ShapeRow}
use Rattle.atspi_tree_model.specs.Tree.{is_shape}
use Rattle.atspi_tree_model.proofs.Found.{take_out-none, count-has, has-count}
use Rattle.atspi_tree.specs.TreeShape.{numbers}
use Rattle.atspi_tree.specs.Table.{Kept, HoldsBelow, all_but, with_child, with_parent, without_child}
use Rattle.atspi_tree.proofs.Held.{holds-join, holds-put_at, numbers-put_at, numbers-put_in}

pub numbers-take_out : (n : ℕ) (f : Forest ShapeRow) → numbers (take_out (is_shape n) f) ≡ all_but n (numbers f)
numbers-take_out n nil = refl
numbers-take_out n (tree a c r) = at (a.node == n) (numbers-take_out n r)
  where
    at : (b : Bool) → numbers (take_out (is_shape n) r) ≡ all_but n (numbers r)
        → numbers (cond b (take_out (is_shape n) r) (tree a (take_out (is_shape n) c) (take_out (is_shape n) r))) ≡ cond (not b) (a.node ∷ all_but n (numbers r)) (all_but n (numbers r))
    at true e = e
    at false e = ap (λ l. a.node ∷ l) e

same_some : (x y : Kept) → Some x ≡ Some y → x ≡ y
same_some x y e = cc

-- the node n, whose parent is q by its row in the table
module _ (look : ℕ → Option Kept) (n q : ℕ) (kn : Kept) (at_n : look n ≡ Some kn) (up_n : kn.parent ≡ Some q) where
  parent_is : (up : Option ℕ) (a : ShapeRow) (ks : List ℕ) → (a.node == n) ≡ true → look a.node ≡ Some (record { row = a; children = ks; parent = up }) → up ≡ Some q
  parent_is up a ks e h =
      let here : look n ≡ Some (record { row = a; children = ks; parent = up }) = subst (λ m. look m ≡ Some (record { row = a; children = ks; parent = up })) (eqb-true a.node n e) h in
      ap (λ (k : Kept). k.parent) (same_some (record { row = a; children = ks; parent = up }) kn (sym here ∙ at_n)) ∙ up_n

  pub not_top : (up : Option ℕ) (f : Forest ShapeRow) → HoldsBelow look up f → (up ≡ Some q → ⊥) → numbers (take_out (is_shape n) f) ≡ numbers f
  not_top up nil h u = refl
  not_top up (tree a c r) h u = at (a.node == n) refl (not_top up r h.2 u)
    where
      at : (b : Bool) → (a.node == n) ≡ b → numbers (take_out (is_shape n) r) ≡ numbers r
          → numbers (cond b (take_out (is_shape n) r) (tree a (take_out (is_shape n) c) (take_out (is_shape n) r))) ≡ a.node ∷ numbers r
      at true e i = absurd (u (parent_is up a (numbers c) e h.0))
      at false e i = ap (λ l. a.node ∷ l) i

  -- it is not its own parent
  pub not_own : (up : Option ℕ) (f : Forest ShapeRow) → HoldsBelow look up f → 1 ≤ count (is_shape n) f → (up ≡ Some q → ⊥) → q ≡ n → ⊥
  not_own up nil h l u e = omega arith
  not_own up (tree a c r) h l u e = at (a.node == n) refl (count (is_shape n) c) refl l (not_own (Some a.node) c h.1) (not_own up r h.2)
    where
      at : (b : Bool) → (a.node == n) ≡ b → (m : ℕ) → count (is_shape n) c ≡ m → 1 ≤ cond b 1 0 + (m + count (is_shape n) r)
          → (1 ≤ count (is_shape n) c → (Some a.node ≡ Some q → ⊥) → q ≡ n → ⊥) → (1 ≤ count (is_shape n) r → (up ≡ Some q → ⊥) → q ≡ n → ⊥) → ⊥
      at true k m j l ic ir = u (parent_is up a (numbers c) k h.0)
      at false k zero j l ic ir = ir (omega arith) u e
      at false k (suc m) j l ic ir = ic (omega arith) (λ s. let same : a.node ≡ q = cc in let y = eq-eqb a.node n (same ∙ e) in cc) e

  -- its parent is there
  pub parent_there : (up : Option ℕ) (f : Forest ShapeRow) → HoldsBelow look up f → 1 ≤ count (is_shape n) f → (up ≡ Some q → ⊥) → 1 ≤ count (is_shape q) f
  parent_there up nil h l u = omega arith
  parent_there up (tree a c r) h l u = at (a.node == n) refl (count (is_shape n) c) refl l (parent_there (Some a.node) c h.1) (parent_there up r h.2) (a.node == q) refl
    where
      at : (b : Bool) → (a.node == n) ≡ b → (m : ℕ) → count (is_shape n) c ≡ m → 1 ≤ cond b 1 0 + (m + count (is_shape n) r)
          → (1 ≤ count (is_shape n) c → (Some a.node ≡ Some q → ⊥) → 1 ≤ count (is_shape q) c) → (1 ≤ count (is_shape n) r → (up ≡ Some q → ⊥) → 1 ≤ count (is_shape q) r)
          → (d : Bool) → (a.node == q) ≡ d → 1 ≤ cond d 1 0 + (count (is_shape q) c + count (is_shape q) r)
      at b k m j l ic ir true z = omega arith
      at true k m j l ic ir false z = absurd (u (parent_is up a (numbers c) k h.0))
      at false k zero j l ic ir false z = let x = ir (omega arith) u in omega arith
      at false k (suc m) j l ic ir false z =
          let x = ic (omega arith) (λ s. let same : a.node ≡ q = cc in let y = eq-eqb a.node q same in cc) in omega arith

  -- it is among the children of its parent
  top_of : (c : Forest ShapeRow) → HoldsBelow look (Some q) c → 1 ≤ count (is_shape n) c → count (is_shape q) c ≡ 0 → is_among n (numbers c) ≡ true
  top_of nil h l z = absurd (omega arith)
  top_of (tree a c r) h l z = at (a.node == n) refl (count (is_shape n) c) refl l (top_of r h.2) (parent_there (Some a.node) c h.1) (a.node == q) refl z
    where
      at : (b : Bool) → (a.node == n) ≡ b → (m : ℕ) → count (is_shape n) c ≡ m → 1 ≤ cond b 1 0 + (m + count (is_shape n) r)
          → (1 ≤ count (is_shape n) r → count (is_shape q) r ≡ 0 → is_among n (numbers r) ≡ true)
          → (1 ≤ count (is_shape n) c → (Some a.node ≡ Some q → ⊥) → 1 ≤ count (is_shape q) c)
          → (d : Bool) → (a.node == q) ≡ d → cond d 1 0 + (count (is_shape q) c + count (is_shape q) r) ≡ 0
          → cond b true (is_among n (numbers r)) ≡ true
      at true k m j l ir ic d y z = refl
      at false k m j l ir ic true y z = absurd (omega arith)
      at false k zero j l ir ic false y z = ir (omega arith) (omega arith)
      at false k (suc m) j l ir ic false y z =
          let x = ic (omega arith) (λ s. let same : a.node ≡ q = cc in let w = eq-eqb a.node q same in cc) in absurd (omega arith)

  pub among_children : (up : Option ℕ) (f : Forest ShapeRow) → HoldsBelow look up f → 1 ≤ count (is_shape n) f → count (is_shape q) f ≤ 1 → (up ≡ Some q → ⊥)
      → is_among n (numbers (children_at (is_shape q) f)) ≡ true
  among_children up nil h l o u = absurd (omega arith)
  among_children up (tree a c r) h l o u =
      at (a.node == q) refl (a.node == n) refl (count (is_shape n) c) refl l o (has (is_shape q) c) refl (among_children (Some a.node) c h.1) (among_children up r h.2)
    where
      at : (d : Bool) → (a.node == q) ≡ d → (b : Bool) → (a.node == n) ≡ b → (m : ℕ) → count (is_shape n) c ≡ m → 1 ≤ cond b 1 0 + (m + count (is_shape n) r)
          → cond d 1 0 + (count (is_shape q) c + count (is_shape q) r) ≤ 1
          → (x : Bool) → has (is_shape q) c ≡ x
          → (1 ≤ count (is_shape n) c → count (is_shape q) c ≤ 1 → (Some a.node ≡ Some q → ⊥) → is_among n (numbers (children_at (is_shape q) c)) ≡ true)
          → (1 ≤ count (is_shape n) r → count (is_shape q) r ≤ 1 → (up ≡ Some q → ⊥) → is_among n (numbers (children_at (is_shape q) r)) ≡ true)
          → is_among n (numbers (cond d c (cond x (children_at (is_shape q) c) (children_at (is_shape q) r)))) ≡ true
      at d y true k m j l o x w ic ir = absurd (u (parent_is up a (numbers c) k h.0))
      at true y false k zero j l o x w ic ir = let z = parent_there up r h.2 (omega arith) u in absurd (omega arith)
      at true y false k (suc m) j l o x w ic ir =
          top_of c (subst (λ p. HoldsBelow look (Some p) c) (eqb-true a.node q y) h.1) (omega arith) (omega arith)
      at false y false k zero j l o true w ic ir =
          let z = parent_there up r h.2 (omega arith) u in let v = count-has (is_shape q) c w in absurd (omega arith)
      at false y false k zero j l o false w ic ir = ir (omega arith) (omega arith) u
      at false y false k (suc m) j l o true w ic ir =
          ic (omega arith) (omega arith) (λ s. let same : a.node ≡ q = cc in let w = eq-eqb a.node q same in cc)
      at false y false k (suc m) j l o false w ic ir =
          let z = parent_there (Some a.node) c h.1 (omega arith) (λ s. let same : a.node ≡ q = cc in let w = eq-eqb a.node q same in cc) in
          let v = has-count (is_shape q) c z in cc

  -- the table without n among the children of q
  module _ (look1 : ℕ → Option Kept) (here : (k : Kept) → look q ≡ Some k → look1 q ≡ Some (without_child n k)) (others : (m : ℕ) → (m == q) ≡ false → look1 m ≡ look m) where
    row_out : (up : Option ℕ) (a : ShapeRow) (c : Forest ShapeRow) (b : Bool) → (a.node == q) ≡ b → HoldsBelow look (Some a.node) c
        → look a.node ≡ Some (record { row = a; children = numbers c; parent = up })
        → look1 a.node ≡ Some (record { row = a; children = numbers (take_out (is_shape n) c); parent = up })
    row_out up a c true e hc h =
        let same : a.node ≡ q = eqb-true a.node q e in
        let k : look1 q ≡ Some (record { row = a; children = all_but n (numbers c); parent = up }) =
        here (record { row = a; children = numbers c; parent = up }) (subst (λ m. look m ≡ Some (record { row = a; children = numbers c; parent = up })) same h) in
        subst (λ m. look1 m ≡ Some (record { row = a; children = all_but n (numbers c); parent = up })) (sym same) k
        ∙ ap (λ (l : List ℕ). Some (record { row = a; children = l; parent = up })) (sym (numbers-take_out n c))
    row_out up a c false e hc h =
        others a.node e ∙ h
        ∙ ap (λ (l : List ℕ). Some (record { row = a; children = l; parent = up }))
        (sym (not_top (Some a.node) c hc (λ s. let same : a.node ≡ q = cc in let y = eq-eqb a.node q same in cc)))

    pub holds-out : (up : Option ℕ) (f : Forest ShapeRow) → HoldsBelow look up f → HoldsBelow look1 up (take_out (is_shape n) f)
    holds-out up nil h = tt
    holds-out up (tree a c r) h =
        at (a.node == n) (holds-out (Some a.node) c h.1) (holds-out up r h.2)
      where
        at : (b : Bool) → HoldsBelow look1 (Some a.node) (take_out (is_shape n) c) → HoldsBelow look1 up (take_out (is_shape n) r)
            → HoldsBelow look1 up (cond b (take_out (is_shape n) r) (tree a (take_out (is_shape n) c) (take_out (is_shape n) r)))
        at true ic ir = ir
        at false ic ir = (row_out up a c (a.node == q) refl h.1 h.0, ic, ir)

    holds-kept : (up : Option ℕ) (f : Forest ShapeRow) → count (is_shape n) f ≡ 0 → HoldsBelow look up f → HoldsBelow look1 up f
    holds-kept up f z h = subst (λ g. HoldsBelow look1 up g) (take_out-none (is_shape n) f z) (holds-out up f h)

    pub holds-pick : (q ≡ n → ⊥) → (up : Option ℕ) (f : Forest ShapeRow) → count (is_shape n) f ≤ 1 → HoldsBelow look up f → HoldsBelow look1 (Some q) (pick (is_shape n) f)
    holds-pick ne up nil l h = tt
    holds-pick ne up (tree a c r) l h =
        at (a.node == n) refl l (λ z. holds-pick ne (Some a.node) c z h.1) (λ z. holds-pick ne up r z h.2)
      where
        at : (b : Bool) → (a.node == n) ≡ b → cond b 1 0 + (count (is_shape n) c + count (is_shape n) r) ≤ 1
            → (count (is_shape n) c ≤ 1 → HoldsBelow look1 (Some q) (pick (is_shape n) c)) → (count (is_shape n) r ≤ 1 → HoldsBelow look1 (Some q) (pick (is_shape n) r))
            → HoldsBelow look1 (Some q) (cond b (tree a c (pick (is_shape n) r)) (join (pick (is_shape n) c) (pick (is_shape n) r)))
        at true e l ic ir =
            let same : a.node ≡ n = eqb-true a.node n e in (
              others a.node (ne_eqb a.node q (λ s. ne (sym s ∙ same))) ∙ h.0
                  ∙ ap (λ (up : Option ℕ). Some (record { row = a; children = numbers c; parent = up })) (parent_is up a (numbers c) e h.0),
              holds-kept (Some a.node) c (omega arith) h.1,
              ir (omega arith),
            )
        at false e l ic ir = holds-join look1 (Some q) (pick (is_shape n) c) (pick (is_shape n) r) (ic (omega arith)) (ir (omega arith))

-- what a table holds below a node
pub holds-children : (look : ℕ → Option Kept) (p : ℕ) (up : Option ℕ) (f : Forest ShapeRow) → HoldsBelow look up f → HoldsBelow look (Some p) (children_at (is_shape p) f)
holds-children look p up nil h = tt
holds-children look p up (tree a c r) h =
    at (a.node == p) refl (has (is_shape p) c) (holds-children look p (Some a.node) c h.1) (holds-children look p up r h.2)
  where
    at : (b : Bool) → (a.node == p) ≡ b → (d : Bool) → HoldsBelow look (Some p) (children_at (is_shape p) c) → HoldsBelow look (Some p) (children_at (is_shape p) r)
        → HoldsBelow look (Some p) (cond b c (cond d (children_at (is_shape p) c) (children_at (is_shape p) r)))
    at true e d ic ir = subst (λ m. HoldsBelow look (Some m) c) (eqb-true a.node p e) h.1
    at false e true ic ir = ic
    at false e false ic ir = ir

-- look-ups that agree but at two numbers that are not in the forest
pub holds-apart : (look look' : ℕ → Option Kept) (x y : ℕ) → ((m : ℕ) → (m == x) ≡ false → (m == y) ≡ false → look' m ≡ look m)
    → (up : Option ℕ) (f : Forest ShapeRow) → count (is_shape x) f ≡ 0 → count (is_shape y) f ≡ 0 → HoldsBelow look up f → HoldsBelow look' up f
holds-apart look look' x y w up nil zx zy h = tt
holds-apart look look' x y w up (tree a c r) zx zy h =
    at (a.node == x) (a.node == y) refl refl zx zy (holds-apart look look' x y w (Some a.node) c) (holds-apart look look' x y w up r)
  where
    at : (b d : Bool) → (a.node == x) ≡ b → (a.node == y) ≡ d → cond b 1 0 + (count (is_shape x) c + count (is_shape x) r) ≡ 0
        → cond d 1 0 + (count (is_shape y) c + count (is_shape y) r) ≡ 0
        → (count (is_shape x) c ≡ 0 → count (is_shape y) c ≡ 0 → HoldsBelow look (Some a.node) c → HoldsBelow look' (Some a.node) c)
        → (count (is_shape x) r ≡ 0 → count (is_shape y) r ≡ 0 → HoldsBelow look up r → HoldsBelow look' up r)
        → HoldsBelow look' up (tree a c r)
    at true d e k zx zy ic ir = absurd (omega arith)
    at false true e k zx zy ic ir = absurd (omega arith)
    at false false e k zx zy ic ir = (w a.node e k ∙ h.0, ic (omega arith) (omega arith) h.1, ir (omega arith) (omega arith) h.2)

-- what a node n that goes below p changes in a table
pub record Attaches (look look' : ℕ → Option Kept) (p i n : ℕ) : Type 0 where
  pub moved : (k : Kept) → look n ≡ Some k → look' n ≡ Some (with_parent p k)
  pub parent : (k : Kept) → look p ≡ Some k → look' p ≡ Some (with_child i n k)
  pub others : (m : ℕ) → (m == p) ≡ false → (m == n) ≡ false → look' m ≡ look m

module _ (look look' : ℕ → Option Kept) (p i n : ℕ) (d : Attaches look look' p i n) where
  -- the tree of n, which stands below p now
  pub holds-tree : (up : Option ℕ) (g : Forest ShapeRow) → numbers g ≡ n ∷ [] → count (is_shape n) g ≤ 1 → count (is_shape p) g ≡ 0 → HoldsBelow look up g → HoldsBelow look' (Some p) g
  holds-tree up nil s l z h = cc
  holds-tree up (tree a c (tree b e r)) s l z h = cc
  holds-tree up (tree a c nil) s l z h = at (a.node == n) refl l
    where
      same : a.node ≡ n
      same = cc

      at : (b : Bool) → (a.node == n) ≡ b → cond b 1 0 + (count (is_shape n) c + 0) ≤ 1 → HoldsBelow look' (Some p) (tree a c nil)
      at false e l = let y = eq-eqb a.node n same in cc
      at true e l = (
        subst (λ m. look' m ≡ Some (record { row = a; children = numbers c; parent = Some p })) (sym same)
            (d.moved (record { row = a; children = numbers c; parent = up }) (subst (λ m. look m ≡ Some (record { row = a; children = numbers c; parent = up })) same h.0)),
        holds-apart look look' p n d.others (Some a.node) c (omega arith) (omega arith) h.1,
        tt,
      )

  module _ (g : Forest ShapeRow) (one : numbers g ≡ n ∷ []) (below : HoldsBelow look' (Some p) g) where
    at_node : (up : Option ℕ) (a : ShapeRow) (c c' : Forest ShapeRow) (b : Bool) → (a.node == p) ≡ b → (a.node == n) ≡ false → numbers c' ≡ numbers c
        → look a.node ≡ Some (record { row = a; children = numbers c; parent = up })
        → look' a.node ≡ Some (record { row = a; children = numbers (put_if b (Some i) g c'); parent = up })
    at_node up a c c' true e ne t h =
        let same : a.node ≡ p = eqb-true a.node p e in
        let k : look' p ≡ Some (with_child i n (record { row = a; children = numbers c; parent = up })) =
        d.parent (record { row = a; children = numbers c; parent = up }) (subst (λ n. look n ≡ Some (record { row = a; children = numbers c; parent = up })) same h) in
        subst (λ m. look' m ≡ Some (with_child i n (record { row = a; children = numbers c; parent = up }))) (sym same) k
        ∙ ap (λ (l : List ℕ). Some (record { row = a; children = l; parent = up })) put_there
      where
        put_there : insert (numbers c) i n ≡ numbers (put_at i g c')
        put_there =
            subst (λ l. insert l i n ≡ numbers (put_at i g c')) t
            (sym (numbers-put_at i g c' ∙ ap (λ (ng : List ℕ). take i (numbers c') ++ (ng ++ drop i (numbers c'))) one))
    at_node up a c c' false e ne t h = d.others a.node e ne ∙ (h ∙ ap (λ (l : List ℕ). Some (record { row = a; children = l; parent = up })) (sym t))

    put_below : (a : ShapeRow) (c : Forest ShapeRow) (b : Bool) → (a.node == p) ≡ b → HoldsBelow look' (Some a.node) c → HoldsBelow look' (Some a.node) (put_if b (Some i) g c)
    put_below a c true e h =
        holds-put_at look' (Some a.node) i g c (subst (λ m. HoldsBelow look' (Some m) g) (sym (eqb-true a.node p e)) below) h
    put_below a c false e h = h

    pub holds-put : (up : Option ℕ) (f : Forest ShapeRow) → count (is_shape n) f ≡ 0 → HoldsBelow look up f → HoldsBelow look' up (put_in (is_shape p) (Some i) g f)
    holds-put up nil z h = tt
    holds-put up (tree a c r) z h = (
      at_node up a c (put_in (is_shape p) (Some i) g c) (a.node == p) refl (not_n a c r z) (numbers-put_in (is_shape p) i g c) h.0,
      put_below a (put_in (is_shape p) (Some i) g c) (a.node == p) refl (holds-put (Some a.node) c (omega arith) h.1),
      holds-put up r (omega arith) h.2,
    )
      where
        not_n : (a : ShapeRow) (c r : Forest ShapeRow) → cond (a.node == n) 1 0 + (count (is_shape n) c + count (is_shape n) r) ≡ 0 → (a.node == n) ≡ false
        not_n a c r z = by (a.node == n) z
          where
            by : (b : Bool) → cond b 1 0 + (count (is_shape n) c + count (is_shape n) r) ≡ 0 → b ≡ false
            by true y = absurd (omega arith)
            by false y = refl

-- a set of states, or a list of children, in a row that is kept
abbrev pub with_set : ℕ → Kept → Kept
with_set s k = record k { row = record k.row { states = s } }

abbrev pub with_list : List ℕ → Kept → Kept
with_list l k = record k { children = l }

-- without a number that was there a list is shorter
pub fewer : (n : ℕ) (ns : List ℕ) → is_among n ns ≡ true → length (all_but n ns) < length ns
fewer n [] h = cc
fewer n (x ∷ xs) h = at (x == n) refl h (fewer n xs)
  where
    less : (xs : List ℕ) → length (all_but n xs) ≤ length xs
    less [] = omega arith
    less (y ∷ ys) = by (y == n) (less ys)
      where
        by : (b : Bool) → length (all_but n ys) ≤ length ys → length (cond (not b) (y ∷ all_but n ys) (all_but n ys)) ≤ suc (length ys)
        by true k = omega arith
        by false k = omega arith

    at : (b : Bool) → (x == n) ≡ b → cond b true (is_among n xs) ≡ true → (is_among n xs ≡ true → length (all_but n xs) < length xs)
        → length (cond (not b) (x ∷ all_but n xs) (all_but n xs)) < suc (length xs)
    at true e h k = let l = less xs in omega arith
    at false e h k = let l = k h in omega arith

-- a node below another has a parent
none_below : (look : ℕ → Option Kept) (n : ℕ) (kn : Kept) → look n ≡ Some kn → kn.parent ≡ None → (x : ℕ) (f : Forest ShapeRow) → HoldsBelow look (Some x) f → 1 ≤ count (is_shape n) f → ⊥
none_below look n kn at_n none x nil h l = omega arith
none_below look n kn at_n none x (tree a c r) h l =
    at (a.node == n) refl (count (is_shape n) c) refl l (none_below look n kn at_n none a.node c h.1) (none_below look n kn at_n none x r h.2)
  where
    at : (b : Bool) → (a.node == n) ≡ b → (m : ℕ) → count (is_shape n) c ≡ m → 1 ≤ cond b 1 0 + (m + count (is_shape n) r)
        → (1 ≤ count (is_shape n) c → ⊥) → (1 ≤ count (is_shape n) r → ⊥) → ⊥
    at true e m j l ic ir =
        let here : look n ≡ Some (record { row = a; children = numbers c; parent = Some x }) =
        subst (λ m. look m ≡ Some (record { row = a; children = numbers c; parent = Some x })) (eqb-true a.node n e) h.0 in
        let z : Some x ≡ None = ap (λ (k : Kept). k.parent) (same_some (record { row = a; children = numbers c; parent = Some x }) kn (sym here ∙ at_n)) ∙ none in
        cc
    at false e zero j l ic ir = ir (omega arith)
    at false e (suc m) j l ic ir = ic (omega arith)

-- only the root has none
pub has_parent : (look : ℕ → Option Kept) (n : ℕ) (kn : Kept) → look n ≡ Some kn → kn.parent ≡ None → (f : Forest ShapeRow)
    → (row : ShapeRow) × (children : Forest ShapeRow) × (row.node ≡ 0) × (f ≡ tree row children nil) → HoldsBelow look None f → 1 ≤ count (is_shape n) f → n ≡ 0
has_parent look n kn at_n none f (row, children, z, e) h l =
    at (row.node == n) refl (subst (λ f. 1 ≤ count (is_shape n) f) e l) (subst (λ f. HoldsBelow look None f) e h)
  where
    at : (b : Bool) → (row.node == n) ≡ b → 1 ≤ cond b 1 0 + (count (is_shape n) children + 0) → HoldsBelow look None (tree row children nil) → n ≡ 0
    at true y l h = sym (eqb-true row.node n y) ∙ z
    at false y l h = absurd (none_below look n kn at_n none row.node children h.1 (omega arith))
