-- A tree is a finite map, in which each node but the root stands once in exactly one list of children and is reached.
use Rattle.std.proofs.Common.{◌≡◌, ℕ, zero, suc, ◌+◌, ◌≤◌, ◌==◌, Bool, true, false, cond, Option, Some, None, List, [], ◌∷◌, refl, sym, ap, ◌∙◌, subst, arith}
use Rattle.std.specs.Prelude.{map, ◌++◌, length, IsSome}
use Rattle.std.proofs.lemmas.Bool.{eqb-true, eq-eqb, ne_eqb}
use Rattle.atspi_tree_model.specs.Forest.{Forest, nil, tree, count, has, find, labels, tops, children_at, relabel, graft, grow, EachLabel, EachNode}
use Rattle.atspi_tree_model.specs.RowRules.{RowRules}
use Rattle.atspi_tree_model.specs.Tree.{is_number, HasTargets, IsRooted, IsTree}
use Rattle.atspi_tree_model.specs.Map.{times, Reached, Root, Child, IsTreeMap, row_in, child_numbers}
use Rattle.atspi_tree_model.proofs.Relabel.{relabel-relabel}
use Rattle.atspi_tree_model.proofs.Found.{count-has, has-count, not_there, find-has, find-passes}
use Rattle.atspi_tree_model.proofs.Labels.{each_weaker}
use Rattle.atspi_tree_model.proofs.Load.{EachNode-weaker}
use Rattle.atspi_tree_model.proofs.Lookup.{each-find}

-- how many trees at the top pass, and how many children of all nodes
abbrev pub at_top : {A : Type 0} → (A → Bool) → Forest A → ℕ
at_top p nil = 0
at_top p (tree a c r) = cond (p a) 1 0 + at_top p r

abbrev pub below : {A : Type 0} → (A → Bool) → Forest A → ℕ
below p nil = 0
below p (tree a c r) = at_top p c + (below p c + below p r)

-- a node stands at the top, or among the children of a node
pub count-split : {A : Type 0} (p : A → Bool) (f : Forest A) → count p f ≡ at_top p f + below p f
count-split p nil = refl
count-split p (tree a c r) = omega (arith, count-split p c, count-split p r)

-- the children of one node are some of all children
one_below : {A : Type 0} (p q : A → Bool) (f : Forest A) → at_top p (children_at q f) ≤ below p f
one_below p q nil = omega arith
one_below p q (tree a c r) = at (q a) (has q c) (one_below p q c) (one_below p q r)
  where
    at : (b d : Bool) → at_top p (children_at q c) ≤ below p c → at_top p (children_at q r) ≤ below p r
        → at_top p (cond b c (cond d (children_at q c) (children_at q r))) ≤ at_top p c + (below p c + below p r)
    at true d hc hr = omega arith
    at false true hc hr = omega arith
    at false false hc hr = omega arith

-- and those of two nodes are others
two_below : {A : Type 0} (p q s : A → Bool) → ((a : A) → q a ≡ true → s a ≡ true → ⊥) → (f : Forest A)
    → at_top p (children_at q f) + at_top p (children_at s f) ≤ below p f
two_below p q s apart nil = omega arith
two_below p q s apart (tree a c r) =
    at (q a) (s a) (apart a) (has q c) (has s c) (two_below p q s apart c) (two_below p q s apart r) (one_below p q c) (one_below p q r) (one_below p s c) (one_below p s r)
  where
    at : (b d : Bool) → (b ≡ true → d ≡ true → ⊥) → (m n : Bool)
        → at_top p (children_at q c) + at_top p (children_at s c) ≤ below p c
        → at_top p (children_at q r) + at_top p (children_at s r) ≤ below p r
        → at_top p (children_at q c) ≤ below p c → at_top p (children_at q r) ≤ below p r
        → at_top p (children_at s c) ≤ below p c → at_top p (children_at s r) ≤ below p r
        → at_top p (cond b c (cond m (children_at q c) (children_at q r))) + at_top p (cond d c (cond n (children_at s c) (children_at s r))) ≤ at_top p c + (below p c + below p r)
    at true true w m n ic ir qc qr sc sr = absurd (w refl refl)
    at true false w m true ic ir qc qr sc sr = omega arith
    at true false w m false ic ir qc qr sc sr = omega arith
    at false true w true n ic ir qc qr sc sr = omega arith
    at false true w false n ic ir qc qr sc sr = omega arith
    at false false w true true ic ir qc qr sc sr = omega arith
    at false false w true false ic ir qc qr sc sr = omega arith
    at false false w false true ic ir qc qr sc sr = omega arith
    at false false w false false ic ir qc qr sc sr = omega arith

pub children-none : {A : Type 0} (p : A → Bool) (f : Forest A) → count p f ≡ 0 → children_at p f ≡ nil
children-none p nil h = refl
children-none p (tree a c r) h = at (p a) (has p c) h (children-none p c (omega arith)) (children-none p r (omega arith))
  where
    at : (b d : Bool) → cond b 1 0 + (count p c + count p r) ≡ 0 → children_at p c ≡ nil → children_at p r ≡ nil
        → cond b c (cond d (children_at p c) (children_at p r)) ≡ nil
    at true d h hc hr = absurd (omega arith)
    at false true h hc hr = hc
    at false false h hc hr = hr

-- where a child stands, some node has it
some_below : {A : Type 0} (P : A → Forest A → Type 0) (p : A → Bool) (f : Forest A) → EachNode P f → 1 ≤ below p f
    → (a : A) × (c : Forest A) × P a c × (1 ≤ at_top p c)
some_below P p nil e l = absurd (omega arith)
some_below {A = A} P p (tree a c r) e l = at (at_top p c) refl (below p c) refl (some_below P p c e.1) (some_below P p r e.2)
  where
    at : (m : ℕ) → at_top p c ≡ m → (n : ℕ) → below p c ≡ n
        → (1 ≤ below p c → (a : A) × (c : Forest A) × P a c × (1 ≤ at_top p c))
        → (1 ≤ below p r → (a : A) × (c : Forest A) × P a c × (1 ≤ at_top p c))
        → (a : A) × (c : Forest A) × P a c × (1 ≤ at_top p c)
    at (suc m) em n en hc hr = (a, c, e.0, omega arith)
    at zero em (suc n) en hc hr = hc (omega arith)
    at zero em zero en hc hr = hr (omega arith)

module _ {A : Type 0} (rules : RowRules A) where
  same_number : (a : A) → is_number rules (rules.number a) a ≡ true
  same_number a = eq-eqb (rules.number a) (rules.number a) refl

  -- each node's children are found by its number
  children_found : (f : Forest A) → ((n : ℕ) → count (is_number rules n) f ≤ 1)
      → EachNode (λ a c. children_at (is_number rules (rules.number a)) f ≡ c) f
  children_found nil once = tt
  children_found (tree a c r) once = (
    rw (same_number a) refl,
    EachNode-weaker (λ x y. is_number rules (rules.number x) y) same_number (λ x k. children_at (is_number rules (rules.number x)) c ≡ k) (λ x k. children_at (is_number rules (rules.number x)) (tree a c r) ≡ k) c c (λ p. omega arith)
        (λ x k l e. rw (other x (omega arith), has-count (is_number rules (rules.number x)) c l) e)
        (children_found c (λ n. let o = once n in omega arith)),
    EachNode-weaker (λ x y. is_number rules (rules.number x) y) same_number (λ x k. children_at (is_number rules (rules.number x)) r ≡ k) (λ x k. children_at (is_number rules (rules.number x)) (tree a c r) ≡ k) r r (λ p. omega arith)
        (λ x k l e. rw (other x (omega arith), not_there (is_number rules (rules.number x)) c (let o = once (rules.number x) in omega arith)) e)
        (children_found r (λ n. let o = once n in omega arith)),
  )
    where
      other : (x : A) → 1 ≤ count (is_number rules (rules.number x)) c + count (is_number rules (rules.number x)) r
          → is_number rules (rules.number x) a ≡ false
      other x l = at (is_number rules (rules.number x) a) refl
        where
          at : (b : Bool) → is_number rules (rules.number x) a ≡ b → is_number rules (rules.number x) a ≡ false
          at true e =
              let w : cond {A = ℕ} (is_number rules (rules.number x) a) 1 0 ≡ 1 = ap (λ b. cond {A = ℕ} b 1 0) e in
              let o = once (rules.number x) in absurd (omega arith)
          at false e = e

  -- a number among the children's numbers is a child that passes
  times-tops : (m : ℕ) (c : Forest A) → times m (map rules.number (tops c)) ≡ at_top (is_number rules m) c
  times-tops m nil = refl
  times-tops m (tree a c r) = omega (arith, times-tops m r)

  -- a list of all numbers of a forest has each as often as it stands there, and no more numbers than there are nodes
  times-joined : (m : ℕ) (xs ys : List A)
      → times m (map rules.number (xs ++ ys)) ≡ times m (map rules.number xs) + times m (map rules.number ys)
  times-joined m [] ys = omega arith
  times-joined m (x ∷ xs) ys = omega (arith, times-joined m xs ys)

  times-labels : (m : ℕ) (f : Forest A) → times m (map rules.number (labels f)) ≡ count (is_number rules m) f
  times-labels m nil = refl
  times-labels m (tree a c r) = omega (arith, times-joined m (labels c) (labels r), times-labels m c, times-labels m r)

  length-joined : (xs ys : List A)
      → length (map rules.number (xs ++ ys)) ≡ length (map rules.number xs) + length (map rules.number ys)
  length-joined [] ys = omega arith
  length-joined (x ∷ xs) ys = omega (arith, length-joined xs ys)

  length-labels : (f : Forest A) → length (map rules.number (labels f)) ≡ count (λ row. true) f
  length-labels nil = refl
  length-labels (tree a c r) = omega (arith, length-joined (labels c) (labels r), length-labels c, length-labels r)

  -- all that stands in a forest is reached, where its top is
  all_reached : (children : ℕ → List ℕ) (f : Forest A)
      → EachNode (λ a c. children (rules.number a) ≡ map rules.number (tops c)) f
      → ((m : ℕ) → 1 ≤ at_top (is_number rules m) f → Reached children m)
      → EachLabel (λ a. Reached children (rules.number a)) f
  all_reached children nil e top = tt
  all_reached children (tree a c r) e top = (
    here,
    all_reached children c e.1 (λ m l. Child here (subst (λ xs. 1 ≤ times m xs) (sym e.0) (let t = times-tops m c in omega arith))),
    all_reached children r e.2 (λ m l. top m (omega arith)),
  )
    where
      here : Reached children (rules.number a)
      here = top (rules.number a) (at (is_number rules (rules.number a) a) (same_number a))
        where
          at : (b : Bool) → b ≡ true → 1 ≤ cond b 1 0 + at_top (is_number rules (rules.number a)) r
          at true e = omega arith
          at false e = cc

  module _ (f : Forest A) (added : ℕ) (t : IsTree rules f added) where
    is_there : (m : ℕ) → 1 ≤ count (is_number rules m) f → IsSome (row_in rules f m)
    is_there m l = let o = find-has (is_number rules m) f l in rw o.1 refl

    is_counted : (m : ℕ) → IsSome (row_in rules f m) → 1 ≤ count (is_number rules m) f
    is_counted m h = at (find (is_number rules m) f) refl h
      where
        at : (o : Option A) → find (is_number rules m) f ≡ o → IsSome o → 1 ≤ count (is_number rules m) f
        at None e h = cc
        at (Some x) e h = (find-passes (is_number rules m) f x e).1

    top_of : (m : ℕ) → at_top (is_number rules m) f ≡ cond (0 == m) 1 0 + 0
    top_of m = at f t.rooted
      where
        at : (g : Forest A) → IsRooted rules g → at_top (is_number rules m) g ≡ cond (0 == m) 1 0 + 0
        at g (row, c, z, e) = rw e (ap (λ n. cond {A = ℕ} (n == m) 1 0 + 0) z)

    root_counted : 1 ≤ count (is_number rules 0) f
    root_counted = let a = count-split (is_number rules 0) f in let b = top_of 0 in omega arith

    children-times : (m p : ℕ)
        → times m (child_numbers rules f p) ≡ at_top (is_number rules m) (children_at (is_number rules p) f)
    children-times m p = times-tops m (children_at (is_number rules p) f)

    found_children : EachNode (λ a c. child_numbers rules f (rules.number a) ≡ map rules.number (tops c)) f
    found_children =
        EachNode-weaker (λ x y. is_number rules (rules.number x) y) same_number (λ a c. children_at (is_number rules (rules.number a)) f ≡ c) (λ a c. child_numbers rules f (rules.number a) ≡ map rules.number (tops c)) f f (λ p. omega arith)
        (λ a c l e. ap (λ g. map rules.number (tops g)) e) (children_found f t.once)

    one_list : (m : ℕ) → (m ≡ 0 → ⊥) → IsSome (row_in rules f m)
        → (p : ℕ) × (times m (child_numbers rules f p) ≡ 1) × ((q : ℕ) → (q ≡ p → ⊥) → times m (child_numbers rules f q) ≡ 0)
    one_list m nz h =
        let a = count-split (is_number rules m) f in
        let b = top_of m in
        let z : cond {A = ℕ} (0 == m) 1 0 ≡ 0 = ap (λ b. cond {A = ℕ} b 1 0) (ne_eqb 0 m (λ e. nz (sym e))) in
        let k = is_counted m h in
        let o = t.once m in
        let s = some_below (λ a c. children_at (is_number rules (rules.number a)) f ≡ c) (is_number rules m) f (children_found f t.once) (omega arith) in
        let p = rules.number s.0 in
        let here : 1 ≤ at_top (is_number rules m) (children_at (is_number rules p) f) = subst (λ g. 1 ≤ at_top (is_number rules m) g) (sym s.2) s.3 in (
          p,
          (let i = one_below (is_number rules m) (is_number rules p) f in let e = children-times m p in omega arith),
          λ q ne. (let j = two_below (is_number rules m) (is_number rules p) (is_number rules q) (λ x u v. ne (sym (eqb-true (rules.number x) q v) ∙ eqb-true (rules.number x) p u)) f in let e = children-times m q in omega arith),
        )

    pub tree_is_map : IsTreeMap rules (row_in rules f) (child_numbers rules f) added
    tree_is_map = record {
      root = is_there 0 root_counted;
      root_below_none = λ p. (let a = count-split (is_number rules 0) f in let b = top_of 0 in let o = t.once 0 in
          let i = one_below (is_number rules 0) (is_number rules p) f in let e = children-times 0 p in omega arith);
      in_one_list = one_list;
      reached = λ m h. reached_at m (find-has (is_number rules m) f (is_counted m h));
      children_there = λ p m l. (is_there p (parent_counted p m l), is_there m (let e = children-times m p in let i = one_below (is_number rules m) (is_number rules p) f in let a = count-split (is_number rules m) f in omega arith));
      numbered = λ m l. none_at m (find (is_number rules m) f) refl (t.numbered m l);
      own_number = λ m a e. eqb-true (rules.number a) m (find-passes (is_number rules m) f a e).0;
      few = (map rules.number (labels f), (let l = length-labels f in let k = t.few in omega arith), λ m h. (let l = times-labels m f in let k = is_counted m h in omega arith));
      few_ever = t.few_ever;
      lawful = λ m a e. each-find rules.IsLawful (is_number rules m) f a t.lawful e;
      targets = λ m a e. each_weaker (λ k. has (is_number rules k) f ≡ true) (λ k. IsSome (row_in rules f k)) (λ k h. is_there k (count-has (is_number rules k) f h)) (rules.targets a)
          (each-find (λ x. HasTargets rules f (rules.targets x)) (is_number rules m) f a t.targets e);
    }
      where
        none_at : (m : ℕ) (o : Option A) → find (is_number rules m) f ≡ o → count (is_number rules m) f ≡ 0
            → find (is_number rules m) f ≡ None
        none_at m None e z = e
        none_at m (Some x) e z = let l = (find-passes (is_number rules m) f x e).1 in absurd (omega arith)

        parent_counted : (p m : ℕ) → 1 ≤ times m (child_numbers rules f p) → 1 ≤ count (is_number rules p) f
        parent_counted p m l = at (count (is_number rules p) f) refl
          where
            at : (k : ℕ) → count (is_number rules p) f ≡ k → 1 ≤ count (is_number rules p) f
            at zero e = absurd (let w : times m (child_numbers rules f p) ≡ 0 = ap (λ g. times m (map rules.number (tops g))) (children-none (is_number rules p) f e) in omega arith)
            at (suc k) e = omega arith

        from_top : (m : ℕ) → 1 ≤ at_top (is_number rules m) f → Reached (child_numbers rules f) m
        from_top m l = at (0 == m) refl (top_of m)
          where
            at : (b : Bool) → (0 == m) ≡ b → at_top (is_number rules m) f ≡ cond b 1 0 + 0
                → Reached (child_numbers rules f) m
            at true e k = subst (Reached (child_numbers rules f)) (eqb-true 0 m e) Root
            at false e k = absurd (omega arith)

        reached_at : (m : ℕ) → (a : A) × (find (is_number rules m) f ≡ Some a) → Reached (child_numbers rules f) m
        reached_at m (a, e) =
            subst (Reached (child_numbers rules f)) (eqb-true (rules.number a) m (find-passes (is_number rules m) f a e).0)
            (each-find (λ x. Reached (child_numbers rules f) (rules.number x)) (is_number rules m) f a (all_reached (child_numbers rules f) f found_children from_top) e)

  -- where each node's children are found by its number, the numbers grow as they were
  grown : (children : ℕ → List ℕ) (n : ℕ) (f : Forest A) → count (λ a. true) f ≤ n
      → EachNode (λ a c. children (rules.number a) ≡ map rules.number (tops c)) f
      → grow n children (map rules.number (tops f)) ≡ relabel rules.number f
  grown children zero nil l e = refl
  grown children (suc n) nil l e = refl
  grown children zero (tree a c r) l e = absurd (omega arith)
  grown children (suc n) (tree a c r) l e =
      rw (e.0, grown children n c (omega arith) e.1) (ap (tree (rules.number a) (relabel rules.number c)) (grown children (suc n) r (omega arith) e.2))

  -- each node is found by its number
  rows_found : (f : Forest A) → ((n : ℕ) → count (is_number rules n) f ≤ 1)
      → EachNode (λ a c. find (is_number rules (rules.number a)) f ≡ Some a) f
  rows_found nil once = tt
  rows_found (tree a c r) once = (
    rw (same_number a) refl,
    EachNode-weaker (λ x y. is_number rules (rules.number x) y) same_number (λ x k. find (is_number rules (rules.number x)) c ≡ Some x) (λ x k. find (is_number rules (rules.number x)) (tree a c r) ≡ Some x) c c (λ p. omega arith)
        (λ x k l e. rw (other x (omega arith), e) refl)
        (rows_found c (λ n. let o = once n in omega arith)),
    EachNode-weaker (λ x y. is_number rules (rules.number x) y) same_number (λ x k. find (is_number rules (rules.number x)) r ≡ Some x) (λ x k. find (is_number rules (rules.number x)) (tree a c r) ≡ Some x) r r (λ p. omega arith)
        (λ x k l e. rw (other x (omega arith), none_found x (find (is_number rules (rules.number x)) c) refl (let o = once (rules.number x) in omega arith), e) refl)
        (rows_found r (λ n. let o = once n in omega arith)),
  )
    where
      other : (x : A) → 1 ≤ count (is_number rules (rules.number x)) c + count (is_number rules (rules.number x)) r
          → is_number rules (rules.number x) a ≡ false
      other x l = at (is_number rules (rules.number x) a) refl
        where
          at : (b : Bool) → is_number rules (rules.number x) a ≡ b → is_number rules (rules.number x) a ≡ false
          at true e =
              let w : cond {A = ℕ} (is_number rules (rules.number x) a) 1 0 ≡ 1 = ap (λ b. cond {A = ℕ} b 1 0) e in
              let o = once (rules.number x) in absurd (omega arith)
          at false e = e

      none_found : (x : A) (o : Option A) → find (is_number rules (rules.number x)) c ≡ o
          → count (is_number rules (rules.number x)) c ≡ 0 → find (is_number rules (rules.number x)) c ≡ None
      none_found x None e z = e
      none_found x (Some y) e z = let l = (find-passes (is_number rules (rules.number x)) c y e).1 in absurd (omega arith)

  relabel-each : {B : Type 0} (h k : A → B) (f : Forest A) → EachNode (λ a c. h a ≡ k a) f → relabel h f ≡ relabel k f
  relabel-each h k nil e = refl
  relabel-each h k (tree a c r) e = rw (e.0, relabel-each h k c e.1, relabel-each h k r e.2) refl

  relabel-id : (f : Forest A) → relabel (λ a. a) f ≡ f
  relabel-id nil = refl
  relabel-id (tree a c r) = rw (relabel-id c, relabel-id r) refl

  graft-same : {B : Type 0} (h k : B → Forest B) → ((x : B) → h x ≡ k x) → (xs : List B) → graft h xs ≡ graft k xs
  graft-same h k e [] = refl
  graft-same h k e (x ∷ xs) = rw (e x, graft-same h k e xs) refl

  grow-same : {B : Type 0} (h k : B → List B) → ((x : B) → h x ≡ k x) → (n : ℕ) (xs : List B)
      → grow n h xs ≡ grow n k xs
  grow-same h k e zero xs = refl
  grow-same h k e (suc n) xs = graft-same (λ x. grow n h (h x)) (λ x. grow n k (k x)) (λ x. rw (e x) (grow-same h k e n (k x))) xs

  -- the numbers of a tree are grown from its map
  numbers_grown : (f : Forest A) (added n : ℕ) → IsTree rules f added → count (λ a. true) f ≤ n
      → grow n (child_numbers rules f) (0 ∷ []) ≡ relabel rules.number f
  numbers_grown f added n t l = sym (ap (grow n (child_numbers rules f)) (top f t.rooted)) ∙ grown (child_numbers rules f) n f l (found_children f added t)
    where
      top : (g : Forest A) → IsRooted rules g → map rules.number (tops g) ≡ 0 ∷ []
      top g (row, c, z, e) = rw (e, z) refl

  -- and its rows are those of the numbers
  rows_of_numbers : (f : Forest A) (added : ℕ) → IsTree rules f added
      → relabel (row_in rules f) (relabel rules.number f) ≡ relabel Some f
  rows_of_numbers f added t = relabel-relabel rules.number (row_in rules f) f ∙ relabel-each (λ a. row_in rules f (rules.number a)) Some f (rows_found f t.once)

  abbrev unwrapped : A → Option A → A
  unwrapped a None = a
  unwrapped a (Some x) = x

  some_apart : (a : A) (f g : Forest A) → relabel Some f ≡ relabel Some g → f ≡ g
  some_apart a f g e = sym (back f) ∙ (ap (relabel (unwrapped a)) e ∙ back g)
    where
      back : (h : Forest A) → relabel (unwrapped a) (relabel Some h) ≡ h
      back h = relabel-relabel Some (unwrapped a) h ∙ relabel-id h

  relabel-pointwise : {B C : Type 0} (h k : B → C) → ((x : B) → h x ≡ k x) → (f : Forest B)
      → relabel h f ≡ relabel k f
  relabel-pointwise h k e nil = refl
  relabel-pointwise h k e (tree a c r) = rw (e a, relabel-pointwise h k e c, relabel-pointwise h k e r) refl

  pub maps_tell_trees : (f g : Forest A) (added : ℕ) → IsTree rules f added → IsTree rules g added
      → ((n : ℕ) → row_in rules f n ≡ row_in rules g n)
      → ((n : ℕ) → child_numbers rules f n ≡ child_numbers rules g n) → f ≡ g
  maps_tell_trees f g added t u er ec =
      some_apart t.rooted.0 f g
      (sym (rows_of_numbers f added t)
      ∙ (relabel-pointwise (row_in rules f) (row_in rules g) er (relabel rules.number f)
      ∙ (ap (relabel (row_in rules g)) numbers ∙ rows_of_numbers g added u)))
    where
      enough : ℕ
      enough = count (λ a. true) f + count (λ a. true) g

      numbers : relabel rules.number f ≡ relabel rules.number g
      numbers =
          sym (numbers_grown f added enough t (omega arith))
          ∙ (grow-same (child_numbers rules f) (child_numbers rules g) ec enough (0 ∷ []) ∙ numbers_grown g added enough u (omega arith))
