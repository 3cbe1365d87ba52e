-- A finite map that is a tree grows to one.
use Rattle.std.proofs.Common.{◌≡◌, ℕ, zero, suc, ◌+◌, ◌<◌, ◌≤◌, ◌==◌, Bool, true, false, cond, Option, Some, None, List, [], ◌∷◌, refl, sym, ap, ◌∙◌, subst, arith}
use Rattle.std.specs.Prelude.{map, length, IsSome, nat_lt}
use Rattle.std.specs.Option.{option_map}
use Rattle.std.proofs.lemmas.Bool.{eqb-true, eqb-false, eq-eqb, ne_eqb, lt-ltb, ltb-true, ltb-false}
use Rattle.atspi_tree_model.specs.Forest.{Forest, nil, tree, count, has, find, first_of, tops, children_at, relabel, grow, EachLabel}
use Rattle.atspi_tree_model.specs.RowRules.{RowRules}
use Rattle.atspi_tree_model.specs.Tree.{is_number, HasTargets, IsTree}
use Rattle.atspi_tree_model.specs.declared.limits.TheConstants.{NODE_LIMIT}
use Rattle.atspi_tree_model.specs.Map.{times, Reached, Root, Child, IsTreeMap, row_in, child_numbers}
use Rattle.atspi_tree_model.specs.Laws.{IsComplete}
use Rattle.atspi_tree_model.proofs.Found.{count-has, has-count, find-has, find-passes, each_counted, EachLabel-weaker}
use Rattle.atspi_tree_model.proofs.Labels.{each_relabel, each_weaker}
use Rattle.atspi_tree_model.proofs.Once.{many, count-grow}
use Rattle.atspi_tree_model.proofs.Deep.{depth_le, complete}
use Rattle.atspi_tree_model.proofs.Maps.{at_top, count-split, children-none}

abbrev eq : ℕ → ℕ → Bool
eq m x = x == m

times-many : (m : ℕ) (xs : List ℕ) → many (eq m) xs ≡ times m xs
times-many m [] = refl
times-many m (x ∷ xs) = omega (arith, times-many m xs)

none_counted : {A : Type 0} (f : Forest A) → count (λ x. false) f ≡ 0
none_counted nil = refl
none_counted (tree a c r) = omega (arith, none_counted c, none_counted r)

-- a forest of numbers that each stand once and below a bound has no more nodes than the bound
count-lt : (k : ℕ) (f : Forest ℕ) → count (λ x. nat_lt x (suc k)) f ≡ count (λ x. nat_lt x k) f + count (eq k) f
count-lt k nil = refl
count-lt k (tree a c r) = at (nat_lt a (suc k)) (nat_lt a k) (a == k) refl refl refl (count-lt k c) (count-lt k r)
  where
    at : (b d e : Bool) → nat_lt a (suc k) ≡ b → nat_lt a k ≡ d → (a == k) ≡ e
        → count (λ x. nat_lt x (suc k)) c ≡ count (λ x. nat_lt x k) c + count (eq k) c
        → count (λ x. nat_lt x (suc k)) r ≡ count (λ x. nat_lt x k) r + count (eq k) r
        → cond b 1 0 + (count (λ x. nat_lt x (suc k)) c + count (λ x. nat_lt x (suc k)) r) ≡ cond d 1 0 + (count (λ x. nat_lt x k) c + count (λ x. nat_lt x k) r) + (cond e 1 0 + (count (eq k) c + count (eq k) r))
    at true true true p q s hc hr = let u = ltb-true a k q in let v : a ≡ k = eqb-true a k s in absurd (omega arith)
    at true true false p q s hc hr = omega arith
    at true false true p q s hc hr = omega arith
    at true false false p q s hc hr = let u = ltb-true a (suc k) p in let v = ltb-false a k q in let w = eqb-false a k s in absurd (w (omega arith))
    at false true e p q s hc hr = let u = ltb-false a (suc k) p in let v = ltb-true a k q in absurd (omega arith)
    at false false true p q s hc hr = let u = ltb-false a (suc k) p in let v : a ≡ k = eqb-true a k s in absurd (omega arith)
    at false false false p q s hc hr = omega arith

count-below : (f : Forest ℕ) → ((m : ℕ) → count (eq m) f ≤ 1) → (k : ℕ) → count (λ x. nat_lt x k) f ≤ k
count-below f once zero = at f
  where
    at : (g : Forest ℕ) → count (λ x. nat_lt x 0) g ≤ 0
    at nil = omega arith
    at (tree a c r) = none (nat_lt a 0) refl (at c) (at r)
      where
        none : (b : Bool) → nat_lt a 0 ≡ b → count (λ x. nat_lt x 0) c ≤ 0 → count (λ x. nat_lt x 0) r ≤ 0
            → cond b 1 0 + (count (λ x. nat_lt x 0) c + count (λ x. nat_lt x 0) r) ≤ 0
        none true e hc hr = let u = ltb-true a 0 e in absurd (omega arith)
        none false e hc hr = omega arith
count-below f once (suc k) = let a = count-lt k f in let b = count-below f once k in let c = once k in omega arith

count-all : (k : ℕ) (f : Forest ℕ) → EachLabel (λ a. a < k) f → count (λ x. true) f ≡ count (λ x. nat_lt x k) f
count-all k nil e = refl
count-all k (tree a c r) e =
    let u : cond {A = ℕ} (nat_lt a k) 1 0 ≡ 1 = ap (λ b. cond {A = ℕ} b 1 0) (lt-ltb a k e.0) in
    omega (arith, count-all k c e.1, count-all k r e.2)

-- where each number stands once and in a list, there are no more nodes than the list has numbers
abbrev in_list : List ℕ → ℕ → Bool
in_list [] x = false
in_list (y ∷ ys) x = cond (y == x) true (in_list ys x)

in_list-times : (ys : List ℕ) (x : ℕ) → 1 ≤ times x ys → in_list ys x ≡ true
in_list-times [] x l = absurd (omega arith)
in_list-times (y ∷ ys) x l = at (y == x) l (in_list-times ys x)
  where
    at : (b : Bool) → 1 ≤ cond b 1 0 + times x ys → (1 ≤ times x ys → in_list ys x ≡ true)
        → cond b true (in_list ys x) ≡ true
    at true l h = refl
    at false l h = h (omega arith)

count-listed : (ys : List ℕ) (f : Forest ℕ) → ((m : ℕ) → count (eq m) f ≤ 1) → count (in_list ys) f ≤ length ys
count-listed [] f once = let z = none_counted f in omega arith
count-listed (y ∷ ys) f once = let s = one_more f in let o = once y in let l = count-listed ys f once in omega arith
  where
    one_more : (g : Forest ℕ) → count (in_list (y ∷ ys)) g ≤ count (eq y) g + count (in_list ys) g
    one_more nil = omega arith
    one_more (tree a c r) = at (y == a) refl (a == y) refl (in_list ys a) (one_more c) (one_more r)
      where
        at : (b : Bool) → (y == a) ≡ b → (d : Bool) → (a == y) ≡ d → (e : Bool)
            → count (in_list (y ∷ ys)) c ≤ count (eq y) c + count (in_list ys) c
            → count (in_list (y ∷ ys)) r ≤ count (eq y) r + count (in_list ys) r
            → cond (cond b true e) 1 0 + (count (in_list (y ∷ ys)) c + count (in_list (y ∷ ys)) r) ≤ cond d 1 0 + (count (eq y) c + count (eq y) r) + (cond e 1 0 + (count (in_list ys) c + count (in_list ys) r))
        at true p true q e hc hr = omega arith
        at true p false q e hc hr = absurd (eqb-false a y q (sym (eqb-true y a p)))
        at false p true q e hc hr = omega arith
        at false p false q e hc hr = omega arith

all_listed : (ys : List ℕ) (f : Forest ℕ) → EachLabel (λ a. in_list ys a ≡ true) f
    → count (λ x. true) f ≡ count (in_list ys) f
all_listed ys nil e = refl
all_listed ys (tree a c r) e =
    let u : cond {A = ℕ} (in_list ys a) 1 0 ≡ 1 = ap (λ b. cond {A = ℕ} b 1 0) e.0 in
    omega (arith, all_listed ys c e.1, all_listed ys r e.2)

-- functions of relabelled forests, where the tests agree on the labels that are there
find-on : {A B : Type 0} (h : A → B) (q : B → Bool) (p : A → Bool) (f : Forest A) → EachLabel (λ a. q (h a) ≡ p a) f
    → find q (relabel h f) ≡ option_map h (find p f)
find-on h q p nil e = refl
find-on {A = A} h q p (tree a c r) e = rw (e.0, find-on h q p c e.1, find-on h q p r e.2) (at (p a) (find p c) (find p r))
  where
    at : (b : Bool) (x y : Option A)
        → cond b (Some (h a)) (first_of (option_map h x) (option_map h y)) ≡ option_map h (cond b (Some a) (first_of x y))
    at true x y = refl
    at false None y = refl
    at false (Some x) y = refl

has-on : {A B : Type 0} (h : A → B) (q : B → Bool) (p : A → Bool) (f : Forest A) → EachLabel (λ a. q (h a) ≡ p a) f
    → has q (relabel h f) ≡ has p f
has-on h q p nil e = refl
has-on h q p (tree a c r) e = rw (e.0, has-on h q p c e.1, has-on h q p r e.2) refl

count-on : {A B : Type 0} (h : A → B) (q : B → Bool) (p : A → Bool) (f : Forest A)
    → EachLabel (λ a. q (h a) ≡ p a) f → count q (relabel h f) ≡ count p f
count-on h q p nil e = refl
count-on h q p (tree a c r) e = rw (e.0, count-on h q p c e.1, count-on h q p r e.2) refl

children-on : {A B : Type 0} (h : A → B) (q : B → Bool) (p : A → Bool) (f : Forest A)
    → EachLabel (λ a. q (h a) ≡ p a) f → children_at q (relabel h f) ≡ relabel h (children_at p f)
children-on h q p nil e = refl
children-on h q p (tree a c r) e = rw (e.0, has-on h q p c e.1, children-on h q p c e.1, children-on h q p r e.2) (at (p a) (has p c))
  where
    at : (b d : Bool)
        → cond b (relabel h c) (cond d (relabel h (children_at p c)) (relabel h (children_at p r))) ≡ relabel h (cond b c (cond d (children_at p c) (children_at p r)))
    at true d = refl
    at false true = refl
    at false false = refl

tops-relabel : {A B : Type 0} (h : A → B) (f : Forest A) → tops (relabel h f) ≡ map h (tops f)
tops-relabel h nil = refl
tops-relabel h (tree a c r) = ap (λ xs. h a ∷ xs) (tops-relabel h r)

top-times : (m : ℕ) (f : Forest ℕ) → times m (tops f) ≡ at_top (eq m) f
top-times m nil = refl
top-times m (tree a c r) = omega (arith, top-times m r)

module _ {A : Type 0} (rules : RowRules A) (row : ℕ → Option A) (children : ℕ → List ℕ) (added : ℕ) (t : IsTreeMap rules row children added) where
  abbrev G : ℕ → Forest ℕ
  G n = grow n children (0 ∷ [])

  no_some : (o : Option A) → o ≡ None → IsSome o → ⊥
  no_some None e s = cc
  no_some (Some x) e s = cc

  -- a number that is no node is in no list
  no_parent : (m : ℕ) → row m ≡ None → (y : ℕ) → times m (children y) ≡ 0
  no_parent m e y = at (times m (children y)) refl
    where
      at : (k : ℕ) → times m (children y) ≡ k → times m (children y) ≡ 0
      at zero z = z
      at (suc k) z = absurd (no_some (row m) e (t.children_there y m (omega arith)).1)

  not_zero : (m : ℕ) → row m ≡ None → (0 == m) ≡ false
  not_zero m e = ne_eqb 0 m (λ z. no_some (row 0) (ap row z ∙ e) t.root)

  -- each number stands once at most
  once : (n m : ℕ) → count (eq m) (G n) ≤ 1
  once zero m = omega arith
  once (suc n) m = at (once n) (0 == m) refl (row m) refl
    where
      at : ((k : ℕ) → count (eq k) (G n) ≤ 1) → (b : Bool) → (0 == m) ≡ b → (o : Option A) → row m ≡ o
          → count (eq m) (G (suc n)) ≤ 1
      at ih true b o e =
          let z : 0 ≡ m = eqb-true 0 m b in
          let g = count-grow children (eq m) (λ y. false) (λ y. times-many m (children y) ∙ subst (λ k. times k (children y) ≡ 0) z (t.root_below_none y)) n (0 ∷ []) in
          let w = none_counted (G n) in
          let u : cond {A = ℕ} (0 == m) 1 0 ≡ 1 = ap (λ b. cond {A = ℕ} b 1 0) b in
          omega arith
      at ih false b None e =
          let g = count-grow children (eq m) (λ y. false) (λ y. times-many m (children y) ∙ no_parent m e y) n (0 ∷ []) in
          let w = none_counted (G n) in
          let u : cond {A = ℕ} (0 == m) 1 0 ≡ 0 = ap (λ b. cond {A = ℕ} b 1 0) b in
          omega arith
      at ih false b (Some a) e =
          let p = t.in_one_list m (λ z. eqb-false 0 m b (sym z)) (rw e refl) in
          let g = count-grow children (eq m) (eq p.0) (λ y. times-many m (children y) ∙ of_parent p.0 p.1 p.2 y (y == p.0) refl) n (0 ∷ []) in
          let u : cond {A = ℕ} (0 == m) 1 0 ≡ 0 = ap (λ b. cond {A = ℕ} b 1 0) b in
          let i = ih p.0 in
          omega arith
        where
          of_parent : (p : ℕ) → times m (children p) ≡ 1 → ((q : ℕ) → (q ≡ p → ⊥) → times m (children q) ≡ 0)
              → (y : ℕ) (b : Bool) → (y == p) ≡ b → times m (children y) ≡ cond b 1 0
          of_parent p one none y true q = ap (λ k. times m (children k)) (eqb-true y p q) ∙ one
          of_parent p one none y false q = none y (eqb-false y p q)

  -- what stands in the grown forest is a node
  absent : (n m : ℕ) → row m ≡ None → count (eq m) (G n) ≡ 0
  absent zero m e = refl
  absent (suc n) m e =
      let g = count-grow children (eq m) (λ y. false) (λ y. times-many m (children y) ∙ no_parent m e y) n (0 ∷ []) in
      let w = none_counted (G n) in
      let u : cond {A = ℕ} (0 == m) 1 0 ≡ 0 = ap (λ b. cond {A = ℕ} b 1 0) (not_zero m e) in
      omega arith

  nodes_there : (n : ℕ) → EachLabel (λ a. IsSome (row a)) (G n)
  nodes_there n =
      EachLabel-weaker (λ a. 1 ≤ count (eq a) (G n)) (λ a. IsSome (row a)) (λ a l. at a l (row a) refl) (G n)
      (each_counted (λ a b. eq a b) (λ a. eq-eqb a a refl) (G n) (G n) (λ p. omega arith))
    where
      at : (a : ℕ) → 1 ≤ count (eq a) (G n) → (o : Option A) → row a ≡ o → IsSome (row a)
      at a l None e = let z = absent n a e in absurd (omega arith)
      at a l (Some x) e = rw e refl

  in_bound : (a : ℕ) → IsSome (row a) → a < suc added
  in_bound a s = at (nat_lt added a) refl
    where
      at : (b : Bool) → nat_lt added a ≡ b → a < suc added
      at true e = absurd (no_some (row a) (t.numbered a (ltb-true added a e)) s)
      at false e = let l = ltb-false added a e in omega arith

  F_complete : IsComplete children (G (suc (suc added)))
  F_complete =
      complete children (suc added) (0 ∷ [])
      (let d = depth_le (G (suc (suc added))) in
      let c = count-all (suc added) (G (suc (suc added))) (EachLabel-weaker _ _ in_bound (G (suc (suc added))) (nodes_there (suc (suc added)))) in
      let b = count-below (G (suc (suc added))) (once (suc (suc added))) (suc added) in
      omega arith)

  -- a child of a node that stands in a complete forest stands in it
  child_there : (p m : ℕ) → 1 ≤ times m (children p) → (f : Forest ℕ) → IsComplete children f → 1 ≤ count (eq p) f
      → 1 ≤ count (eq m) f
  child_there p m l nil c k = absurd (omega arith)
  child_there p m l (tree a g r) c k = at (a == p) refl k (count (eq p) g) refl (child_there p m l g c.1) (child_there p m l r c.2)
    where
      at : (b : Bool) → (a == p) ≡ b → 1 ≤ cond b 1 0 + (count (eq p) g + count (eq p) r) → (j : ℕ)
          → count (eq p) g ≡ j
          → (1 ≤ count (eq p) g → 1 ≤ count (eq m) g) → (1 ≤ count (eq p) r → 1 ≤ count (eq m) r)
          → 1 ≤ cond (a == m) 1 0 + (count (eq m) g + count (eq m) r)
      at true e k j ej hg hr =
          let u : 1 ≤ times m (tops g) = subst (λ xs. 1 ≤ times m xs) (sym (c.0 ∙ ap children (eqb-true a p e))) l in
          let v = top-times m g in
          let w = count-split (eq m) g in
          omega arith
      at false e k zero ej hg hr = let w = hr (omega arith) in omega arith
      at false e k (suc j) ej hg hr = let w = hg (omega arith) in omega arith

  all_there : (m : ℕ) → Reached children m → 1 ≤ count (eq m) (G (suc (suc added)))
  all_there m Root = omega arith
  all_there m (Child {p = p} r l) = child_there p m l (G (suc (suc added))) F_complete (all_there p r)

  first_row : (x : A) × (row 0 ≡ Some x)
  first_row = at (row 0) refl
    where
      at : (o : Option A) → row 0 ≡ o → (x : A) × (row 0 ≡ Some x)
      at None e = absurd (no_some (row 0) e t.root)
      at (Some x) e = (x, e)

  abbrev or_else : A → Option A → A
  or_else a None = a
  or_else a (Some x) = x

  h : ℕ → A
  h n = or_else first_row.0 (row n)

  h_is : (n : ℕ) → IsSome (row n) → row n ≡ Some (h n)
  unfolding h
  h_is n s = at (row n) s
    where
      at : (o : Option A) → IsSome o → o ≡ Some (or_else first_row.0 o)
      at None s = cc
      at (Some x) s = refl

  -- a row has the number of its node
  numbers_agree : (m : ℕ) → EachLabel (λ a. is_number rules m (h a) ≡ eq m a) (G (suc (suc added)))
  numbers_agree m =
      EachLabel-weaker (λ a. IsSome (row a)) (λ a. is_number rules m (h a) ≡ eq m a) (λ a s. ap (λ k. k == m) (t.own_number a (h a) (h_is a s)))
      (G (suc (suc added))) (nodes_there (suc (suc added)))

  same_row : (n : ℕ) → option_map h (find (eq n) (G (suc (suc added)))) ≡ row n
  same_row n = at (row n) refl
    where
      at : (o : Option A) → row n ≡ o → option_map h (find (eq n) (G (suc (suc added)))) ≡ row n
      at None e = none (find (eq n) (G (suc (suc added)))) refl ∙ sym e
        where
          none : (o : Option ℕ) → find (eq n) (G (suc (suc added))) ≡ o
              → option_map h (find (eq n) (G (suc (suc added)))) ≡ None
          none None q = rw q refl
          none (Some x) q = let l = (find-passes (eq n) (G (suc (suc added))) x q).1 in let z = absent (suc (suc added)) n e in absurd (omega arith)
      at (Some a) e =
          let s : IsSome (row n) = rw e refl in
          let f = find-has (eq n) (G (suc (suc added))) (all_there n (t.reached n s)) in
          let x : f.0 ≡ n = eqb-true f.0 n (find-passes (eq n) (G (suc (suc added))) f.0 f.1).0 in
          ap (option_map h) f.1 ∙ (ap (λ k. Some (h k)) x ∙ sym (h_is n s))

  none_listed : (n : ℕ) → row n ≡ None → children n ≡ []
  none_listed n e = at (children n) refl
    where
      at : (xs : List ℕ) → children n ≡ xs → children n ≡ []
      at [] q = q
      at (x ∷ xs) q =
          let u : cond {A = ℕ} (x == x) 1 0 ≡ 1 = ap (λ b. cond {A = ℕ} b 1 0) (eq-eqb x x refl) in
          let l : 1 ≤ times x (children n) = rw q (omega arith) in
          absurd (no_some (row n) e (t.children_there n x l).0)

  -- in a complete forest the children of a node are found
  tops_found : (n : ℕ) (f : Forest ℕ) → IsComplete children f → 1 ≤ count (eq n) f
      → tops (children_at (eq n) f) ≡ children n
  tops_found n nil c l = absurd (omega arith)
  tops_found n (tree a g r) c l = at (a == n) refl l (has (eq n) g) refl (tops_found n g c.1) (tops_found n r c.2)
    where
      at : (b : Bool) → (a == n) ≡ b → 1 ≤ cond b 1 0 + (count (eq n) g + count (eq n) r) → (d : Bool)
          → has (eq n) g ≡ d
          → (1 ≤ count (eq n) g → tops (children_at (eq n) g) ≡ children n)
          → (1 ≤ count (eq n) r → tops (children_at (eq n) r) ≡ children n)
          → tops (cond b g (cond d (children_at (eq n) g) (children_at (eq n) r))) ≡ children n
      at true e l d ed hg hr = c.0 ∙ ap children (eqb-true a n e)
      at false e l true ed hg hr = hg (count-has (eq n) g ed)
      at false e l false ed hg hr = hr (none_at (count (eq n) g) refl l)
        where
          none_at : (k : ℕ) → count (eq n) g ≡ k → 1 ≤ 0 + (count (eq n) g + count (eq n) r) → 1 ≤ count (eq n) r
          none_at zero z l = omega arith
          none_at (suc k) z l = let w = has-count (eq n) g (omega arith) in cc

  numbers_of_rows : (xs : List ℕ) → ((m : ℕ) → 1 ≤ times m xs → IsSome (row m)) → map rules.number (map h xs) ≡ xs
  numbers_of_rows [] w = refl
  numbers_of_rows (x ∷ xs) w =
      rw (t.own_number x (h x) (h_is x (w x (first (x == x) (eq-eqb x x refl)))), numbers_of_rows xs (λ m l. w m (omega arith))) refl
    where
      first : (b : Bool) → b ≡ true → 1 ≤ cond b 1 0 + times x xs
      first true e = omega arith
      first false e = cc

  same_children : (n : ℕ)
      → map rules.number (tops (relabel h (children_at (eq n) (G (suc (suc added)))))) ≡ children n
  same_children n = at (row n) refl
    where
      at : (o : Option A) → row n ≡ o
          → map rules.number (tops (relabel h (children_at (eq n) (G (suc (suc added)))))) ≡ children n
      at None e = rw (children-none (eq n) (G (suc (suc added))) (absent (suc (suc added)) n e)) (sym (none_listed n e))
      at (Some a) e =
          let s : IsSome (row n) = rw e refl in
          let q = tops_found n (G (suc (suc added))) F_complete (all_there n (t.reached n s)) in
          ap (map rules.number) (tops-relabel h (children_at (eq n) (G (suc (suc added)))) ∙ ap (map h) q)
          ∙ numbers_of_rows (children n) (λ m l. (t.children_there n m l).1)

  -- the tree
  pub F : Forest A
  F = relabel h (G (suc (suc added)))

  F_has : (m : ℕ) → IsSome (row m) → has (is_number rules m) F ≡ true
  unfolding F
  F_has m s =
      has-on h (is_number rules m) (eq m) (G (suc (suc added))) (numbers_agree m)
      ∙ has-count (eq m) (G (suc (suc added))) (all_there m (t.reached m s))

  F_few : (numbers : List ℕ) × (length numbers ≤ NODE_LIMIT) × ((m : ℕ) → IsSome (row m) → 1 ≤ times m numbers)
      → count (λ row. true) F ≤ NODE_LIMIT
  unfolding F
  F_few (numbers, short, each) =
      let c = count-on h (λ row. true) (λ x. true) (G (suc (suc added))) (EachLabel-weaker (λ a. IsSome (row a)) (λ a. true ≡ true) (λ a s. refl) (G (suc (suc added))) (nodes_there (suc (suc added)))) in
      let e = all_listed numbers (G (suc (suc added))) (EachLabel-weaker (λ a. IsSome (row a)) (λ a. in_list numbers a ≡ true) (λ a s. in_list-times numbers a (each a s)) (G (suc (suc added))) (nodes_there (suc (suc added)))) in
      let l = count-listed numbers (G (suc (suc added))) (once (suc (suc added))) in
      omega arith

  F_is_tree : IsTree rules F added
  unfolding F
  F_is_tree = record {
    rooted = (h 0, relabel h (grow (suc added) children (children 0)), t.own_number 0 (h 0) (h_is 0 t.root), refl);
    once = λ n. (let e = count-on h (is_number rules n) (eq n) (G (suc (suc added))) (numbers_agree n) in let o = once (suc (suc added)) n in omega arith);
    numbered = λ n l. count-on h (is_number rules n) (eq n) (G (suc (suc added))) (numbers_agree n) ∙ absent (suc (suc added)) n (t.numbered n l);
    few = F_few t.few;
    few_ever = t.few_ever;
    lawful = each_relabel rules.IsLawful h (G (suc (suc added)))
        (EachLabel-weaker (λ a. IsSome (row a)) (λ a. rules.IsLawful (h a)) (λ a s. t.lawful a (h a) (h_is a s)) (G (suc (suc added))) (nodes_there (suc (suc added))));
    targets = each_relabel (λ x. HasTargets rules F (rules.targets x)) h (G (suc (suc added)))
        (EachLabel-weaker (λ a. IsSome (row a)) (λ a. HasTargets rules F (rules.targets (h a)))
        (λ a s. each_weaker (λ m. IsSome (row m)) (λ m. has (is_number rules m) F ≡ true) F_has (rules.targets (h a)) (t.targets a (h a) (h_is a s)))
        (G (suc (suc added))) (nodes_there (suc (suc added))));
  }

  pub map_is_tree : (f : Forest A) × IsTree rules f added × ((n : ℕ) → row_in rules f n ≡ row n) × ((n : ℕ) → child_numbers rules f n ≡ children n)
  unfolding F
  map_is_tree = (
    F,
    F_is_tree,
    (λ n. find-on h (is_number rules n) (eq n) (G (suc (suc added))) (numbers_agree n) ∙ same_row n),
    (λ n. ap (λ g. map rules.number (tops g)) (children-on h (is_number rules n) (eq n) (G (suc (suc added))) (numbers_agree n)) ∙ same_children n),
  )
