-- Going down from a node to the last of its children that covers a point: what is at the point below the node is at it
-- below that child.
use Rattle.std.proofs.Common.{◌≡◌, ℕ, zero, suc, ◌+◌, ◌≤◌, ◌<◌, ◌==◌, Bool, true, false, cond, not, ℤ, ◌-◌, ◌&&◌, List, [], ◌∷◌, ◌++◌, length, drop, get_or, Option, None, Some, refl, sym, ap, ◌∙◌, subst, arith}
use Rattle.std.specs.Prelude.{map}
use Rattle.std.specs.Option.{option_map, option_map_or}
use Rattle.std.proofs.lemmas.Bool.{eqb-true, eq-eqb}
use Rattle.std.proofs.lemmas.List.{map-append}
use Rattle.atspi_tree_model.specs.Forest.{Forest, nil, tree, count, has, labels, pick, take_out, find, children_at, first_of, EachLabel, EachNode}
use Rattle.atspi_tree_model.specs.Row.{ShapeRow}
use Rattle.atspi_tree_model.specs.States.{has_state}
use Rattle.atspi_tree_model.specs.Tree.{is_shape}
use Rattle.atspi_tree_model.proofs.Found.{count-has, has-count, not_there, find-passes, find-has, find-only}
use Rattle.atspi_tree_model.proofs.Labels.{each_pick}
use Rattle.atspi_tree.specs.TreeShape.{TreeShape, IsLawful, numbers, children_of}
use Rattle.atspi_tree.proofs.Leaf.{picked_one}
use Rattle.atspi_hit.specs.declared.rect.Rect.{Rect}
use Rattle.atspi_hit.specs.Places.{covers}
use Rattle.atspi_hit.specs.Pointing.{covers_point, showing, last, at_point}
use Rattle.atspi_hit.specs.inner.Covering.{covers_node, last_of}

-- a row is that of its number, and these are its children
record Known (f : Forest ShapeRow) (row : ShapeRow) (kids : Forest ShapeRow) : Type 0 where
  pub found : find (is_shape row.node) f ≡ Some row
  pub below : children_at (is_shape row.node) f ≡ kids

each_weaker : (P Q : ShapeRow → Forest ShapeRow → Type 0) → ((a : ShapeRow) (c : Forest ShapeRow) → P a c → Q a c)
    → (f : Forest ShapeRow) → EachNode P f → EachNode Q f
each_weaker P Q h nil e = tt
each_weaker P Q h (tree a c r) e = (h a c e.0, each_weaker P Q h c e.1, each_weaker P Q h r e.2)

known_top : (a : ShapeRow) (c r : Forest ShapeRow) → Known (tree a c r) a c
known_top a c r =
    let itself : (a.node == a.node) ≡ true = eq-eqb a.node a.node refl in
    record {
      found = ap (λ b. cond b (Some a) (first_of (find (is_shape a.node) c) (find (is_shape a.node) r))) itself;
      below = ap (λ b. cond b c (cond (has (is_shape a.node) c) (children_at (is_shape a.node) c) (children_at (is_shape a.node) r))) itself;
    }

not_top : (b : Bool) (k l : ℕ) → 1 ≤ k + l → cond b 1 0 + (k + l) ≤ 1 → b ≡ false
not_top true k l m n = absurd (omega arith)
not_top false k l m n = refl

known_child : (a : ShapeRow) (c r : Forest ShapeRow) → ((n : ℕ) → count (is_shape n) (tree a c r) ≤ 1)
    → (row : ShapeRow) (kids : Forest ShapeRow) → Known c row kids → Known (tree a c r) row kids
known_child a c r once row kids k =
    let p = is_shape row.node in
    let some = (find-passes p c row k.found).1 in
    let no : p a ≡ false = not_top (p a) (count p c) (count p r) (omega (arith, some)) (once row.node) in
    let there : has p c ≡ true = has-count p c some in
    record {
      found =
          ap (λ b. cond b (Some a) (first_of (find p c) (find p r))) no ∙ ap (λ o. first_of o (find p r)) k.found;
      below =
          ap (λ b. cond b c (cond (has p c) (children_at p c) (children_at p r))) no
          ∙ ap (λ b. cond b (children_at p c) (children_at p r)) there ∙ k.below;
    }

find_nothing : (p : ShapeRow → Bool) (f : Forest ShapeRow) → count p f ≡ 0 → find p f ≡ None
find_nothing p f z = at (find p f) refl
  where
    at : (o : Option ShapeRow) → find p f ≡ o → find p f ≡ None
    at None e = e
    at (Some x) e = let k = (find-passes p f x e).1 in absurd (omega arith)

known_rest : (a : ShapeRow) (c r : Forest ShapeRow) → ((n : ℕ) → count (is_shape n) (tree a c r) ≤ 1)
    → (row : ShapeRow) (kids : Forest ShapeRow) → Known r row kids → Known (tree a c r) row kids
known_rest a c r once row kids k =
    let p = is_shape row.node in
    let some = (find-passes p r row k.found).1 in
    let few = once row.node in
    let no : p a ≡ false = not_top (p a) (count p c) (count p r) (omega (arith, some)) few in
    let none : count p c ≡ 0 = omega (arith, some, few) in
    record {
      found =
          ap (λ b. cond b (Some a) (first_of (find p c) (find p r))) no
          ∙ ap (λ o. first_of o (find p r)) (find_nothing p c none) ∙ k.found;
      below =
          ap (λ b. cond b c (cond (has p c) (children_at p c) (children_at p r))) no
          ∙ ap (λ b. cond b (children_at p c) (children_at p r)) (not_there p c none) ∙ k.below;
    }

each_known : (f : Forest ShapeRow) → ((n : ℕ) → count (is_shape n) f ≤ 1) → EachNode (Known f) f
each_known nil once = tt
each_known (tree a c r) once = (
  known_top a c r,
  each_weaker (Known c) (Known (tree a c r)) (known_child a c r once) c (each_known c (λ n. omega (arith, once n))),
  each_weaker (Known r) (Known (tree a c r)) (known_rest a c r once) r (each_known r (λ n. omega (arith, once n))),
)

each_below : (P : ShapeRow → Forest ShapeRow → Type 0) (p : ShapeRow → Bool) (f : Forest ShapeRow) → EachNode P f
    → EachNode P (children_at p f)
each_below P p nil e = tt
each_below P p (tree a c r) e = at (p a) (has p c) (each_below P p c e.1) (each_below P p r e.2)
  where
    at : (b d : Bool) → EachNode P (children_at p c) → EachNode P (children_at p r)
        → EachNode P (cond b c (cond d (children_at p c) (children_at p r)))
    at true d x y = e.1
    at false true x y = x
    at false false x y = y

-- what was found is what was picked
picked : (p : ShapeRow → Bool) (f : Forest ShapeRow) (x : ShapeRow) → count p f ≤ 1 → find p f ≡ Some x
    → pick p f ≡ tree x (children_at p f) nil
picked p f x l e =
    let some = (find-passes p f x e).1 in
    let o = picked_one p f (omega arith) in
    let Q : ShapeRow → Type 0 = λ a. p a ≡ true → a ≡ x in
    let each : EachLabel Q (tree o.row (children_at p f) nil) = subst (EachLabel Q) o.is (each_pick Q p f (find-only p f x l e)) in
    o.is ∙ ap (λ r. tree r (children_at p f) nil) (each.0 o.passes)

first_none : {A : Type 0} (o : Option A) → first_of o None ≡ o
first_none None = refl
first_none (Some x) = refl

first_first : {A : Type 0} (o : Option A) (x : A) (z : Option A) → first_of (first_of o (Some x)) z ≡ first_of o (Some x)
first_first None x z = refl
first_first (Some y) x z = refl

last_append : (xs ys : List ℕ) → last (xs ++ ys) ≡ first_of (last ys) (last xs)
last_append [] ys = sym (first_none (last ys))
last_append (x ∷ xs) ys = ap (λ o. first_of o (Some x)) (last_append xs ys) ∙ joined (last ys) (last xs)
  where
    joined : (o u : Option ℕ) → first_of (first_of o u) (Some x) ≡ first_of o (first_of u (Some x))
    joined None u = refl
    joined (Some y) u = refl

some_is : {A : Type 0} (x y : A) → Some x ≡ Some y → y ≡ x
some_is x y e = cc

-- the last that passes, where none behind it does
last_found : (q : ℕ → Bool) (xs : List ℕ) (i : ℕ) → i < length xs → last_of q (drop (suc i) xs) ≡ None
    → q (get_or xs i 0) ≡ true → last_of q xs ≡ Some (get_or xs i 0)
last_found q [] i l n e = absurd (omega arith)
last_found q (x ∷ xs) zero l n e = rw (n, e) refl
last_found q (x ∷ xs) (suc i) l n e = rw (last_found q xs i (omega arith) n e) refl

pub last_at : (q : ℕ → Bool) (xs : List ℕ) (left : ℕ) → 0 < left → left ≤ length xs → last_of q (drop left xs) ≡ None
    → q (get_or xs (left - 1) 0) ≡ true → last_of q xs ≡ Some (get_or xs (left - 1) 0)
last_at q xs left some within none e =
    let k : suc (left - 1) ≡ left = omega arith in
    last_found q xs (left - 1) (omega arith) (subst (λ j. last_of q (drop j xs) ≡ None) (sym k) none) e

-- what is known of a node by its rectangle, its place in the tree and its states
and_false : (b : Bool) → b && false ≡ false
and_false true = refl
and_false false = refl

and_true : (b : Bool) → b && true ≡ b
and_true true = refl
and_true false = refl

module _ (t : TreeShape) (rects : ℕ → Rect) (px py : ℤ) (n : ℕ) where
  numbered : (row : ShapeRow) → find (is_shape n) t.rows ≡ Some row → row.node ≡ n
  numbered row e = eqb-true row.node n (find-passes (is_shape n) t.rows row e).0

  pub not_in : (r : Rect) (b : Bool) → r ≡ rects n → b ≡ covers r px py → b ≡ false → covers_node t rects px py n ≡ false
  not_in r b is_rect is false_is = at (find (is_shape n) t.rows) refl
    where
      out : covers (rects n) px py ≡ false
      out = ap (λ r. covers r px py) (sym is_rect) ∙ sym is ∙ false_is

      at : (o : Option ShapeRow) → find (is_shape n) t.rows ≡ o → option_map_or (covers_point rects px py) (find (is_shape n) t.rows) false ≡ false
      at None s = ap (λ o. option_map_or (covers_point rects px py) o false) s
      at (Some row) s =
          ap (λ o. option_map_or (covers_point rects px py) o false) s
          ∙ ap (λ b. has_state showing row.states && b) (ap (λ m. covers (rects m) px py) (numbered row s) ∙ out)
          ∙ and_false (has_state showing row.states)

  pub not_here : (b : Bool) → b ≡ has (is_shape n) t.rows → b ≡ false → covers_node t rects px py n ≡ false
  not_here b is false_is = at (find (is_shape n) t.rows) refl
    where
      at : (o : Option ShapeRow) → find (is_shape n) t.rows ≡ o → option_map_or (covers_point rects px py) (find (is_shape n) t.rows) false ≡ false
      at None s = ap (λ o. option_map_or (covers_point rects px py) o false) s
      at (Some row) s = let k : has (is_shape n) t.rows ≡ true = has-count (is_shape n) t.rows (find-passes (is_shape n) t.rows row s).1 in cc

  pub shows : (r : Rect) (b : Bool) (states : ℕ) (d : Bool) → r ≡ rects n → b ≡ covers r px py → b ≡ true
      → option_map (λ (row : ShapeRow). row.states) (find (is_shape n) t.rows) ≡ Some states → d ≡ has_state showing states
      → covers_node t rects px py n ≡ d
  shows r b states d is_rect is true_is are shown = at (find (is_shape n) t.rows) refl are
    where
      inside : covers (rects n) px py ≡ true
      inside = ap (λ r. covers r px py) (sym is_rect) ∙ sym is ∙ true_is

      at : (o : Option ShapeRow) → find (is_shape n) t.rows ≡ o → option_map (λ (row : ShapeRow). row.states) o ≡ Some states
          → option_map_or (covers_point rects px py) (find (is_shape n) t.rows) false ≡ d
      at None s z = cc
      at (Some row) s z =
          ap (λ o. option_map_or (covers_point rects px py) o false) s
          ∙ ap (λ b. has_state showing row.states && b) (ap (λ m. covers (rects m) px py) (numbered row s) ∙ inside)
          ∙ and_true (has_state showing row.states)
          ∙ ap (has_state showing) (sym (some_is row.states states z)) ∙ sym shown

-- where each row covers the point or not
module _ (covers : ShapeRow → Bool) where
  -- what is at the point in a forest
  hit : Forest ShapeRow → Option ℕ
  hit g = last (map (λ (row : ShapeRow). row.node) (labels (take_out (λ row. not (covers row)) g)))

  -- the last tree at the top whose label covers it
  last_top : Forest ShapeRow → Option (ShapeRow × Forest ShapeRow)
  last_top nil = None
  last_top (tree a c r) = first_of (last_top r) (cond (covers a) (Some (a, c)) None)

  -- what is at it there
  below : Option (ShapeRow × Forest ShapeRow) → Option ℕ
  below None = None
  below (Some x) = first_of (hit x.1) (Some x.0.node)

  one : (a : ShapeRow) (c r : Forest ShapeRow) → covers a ≡ true → hit (tree a c r) ≡ first_of (first_of (hit r) (hit c)) (Some a.node)
  unfolding hit
  one a c r e =
      rw e
      (ap (λ o. first_of o (Some a.node))
      (ap last (map-append (λ (row : ShapeRow). row.node) (labels (take_out (λ row. not (covers row)) c)) (labels (take_out (λ row. not (covers row)) r)))
      ∙ last_append (map (λ (row : ShapeRow). row.node) (labels (take_out (λ row. not (covers row)) c))) (map (λ (row : ShapeRow). row.node) (labels (take_out (λ row. not (covers row)) r)))))

  other : (a : ShapeRow) (c r : Forest ShapeRow) → covers a ≡ false → hit (tree a c r) ≡ hit r
  unfolding hit
  other a c r e = rw e refl

  empty : hit nil ≡ None
  unfolding hit
  empty = refl

  hit_top : (g : Forest ShapeRow) → hit g ≡ below (last_top g)
  unfolding last_top below
  hit_top nil = empty
  hit_top (tree a c r) = at (covers a) refl (last_top r) (hit_top r)
    where
      at : (b : Bool) → covers a ≡ b → (o : Option (ShapeRow × Forest ShapeRow)) → hit r ≡ below o
          → hit (tree a c r) ≡ below (first_of o (cond (covers a) (Some (a, c)) None))
      at true e None h = one a c r e ∙ ap (λ o. first_of (first_of o (hit c)) (Some a.node)) h ∙ rw e refl
      at true e (Some x) h =
          one a c r e
          ∙ ap (λ o. first_of (first_of o (hit c)) (Some a.node)) h
          ∙ ap (λ o. first_of o (Some a.node)) (first_first (hit x.1) x.0.node (hit c))
          ∙ first_first (hit x.1) x.0.node (Some a.node)
      at false e None h = other a c r e ∙ h ∙ rw e refl
      at false e (Some x) h = other a c r e ∙ h

  -- that tree is one of the forest
  record IsTop (P : ShapeRow → Forest ShapeRow → Type 0) (g : Forest ShapeRow) (x : ShapeRow × Forest ShapeRow) : Type 0 where
    pub has_it : P x.0 x.1
    pub passes : covers x.0 ≡ true
    pub size : 1 + count (λ row. true) x.1 ≤ count (λ row. true) g

  is_top : (P : ShapeRow → Forest ShapeRow → Type 0) (g : Forest ShapeRow) (x : ShapeRow × Forest ShapeRow) → EachNode P g
      → last_top g ≡ Some x → IsTop P g x
  unfolding last_top
  is_top P nil x k e = cc
  is_top P (tree a c r) x k e = at (λ z. is_top P r x k.2 z) (last_top r) refl (covers a) refl e
    where
      later : IsTop P r x → IsTop P (tree a c r) x
      later i = record { has_it = i.has_it; passes = i.passes; size = (let s = i.size in omega arith) }

      here : x ≡ (a, c) → covers a ≡ true → IsTop P (tree a c r) x
      here s e = subst (IsTop P (tree a c r)) (sym s) (record { has_it = k.0; passes = e; size = omega arith })

      at : (last_top r ≡ Some x → IsTop P r x) → (o : Option (ShapeRow × Forest ShapeRow)) → last_top r ≡ o → (b : Bool) → covers a ≡ b
          → first_of o (cond b (Some (a, c)) None) ≡ Some x → IsTop P (tree a c r) x
      at rest (Some y) s b q e = later (rest (s ∙ e))
      at rest None s true q e = here (some_is (a, c) x e) q
      at rest None s false q e = cc

  -- the numbers of the trees at the top tell it
  by_number : (q : ℕ → Bool) (g : Forest ShapeRow) → EachNode (λ row kids. q row.node ≡ covers row) g
      → last_of q (numbers g) ≡ option_map (λ (x : ShapeRow × Forest ShapeRow). x.0.node) (last_top g)
  unfolding last_top
  by_number q nil k = refl
  by_number q (tree a c r) k = rw (k.0, by_number q r k.2) (at (last_top r) (covers a))
    where
      at : (o : Option (ShapeRow × Forest ShapeRow)) (b : Bool)
          → first_of (option_map (λ (x : ShapeRow × Forest ShapeRow). x.0.node) o) (cond b (Some a.node) None)
          ≡ option_map (λ (x : ShapeRow × Forest ShapeRow). x.0.node) (first_of o (cond b (Some (a, c)) None))
      at None true = refl
      at None false = refl
      at (Some x) b = refl

-- how many nodes are at and below a node
pub size : TreeShape → ℕ → ℕ
size t n = count (λ row. true) (pick (is_shape n) t.rows)

module _ (t : TreeShape) (lawful : IsLawful t) (rects : ℕ → Rect) (px py : ℤ) where
  -- what stands at a number
  record Stands (n : ℕ) (row : ShapeRow) (kids : Forest ShapeRow) : Type 0 where
    pub number : row.node ≡ n
    pub found : find (is_shape n) t.rows ≡ Some row
    pub below : children_at (is_shape n) t.rows ≡ kids

  known : (row : ShapeRow) (kids : Forest ShapeRow) → Known t.rows row kids → Stands row.node row kids
  known row kids k = record { number = refl; found = k.found; below = k.below }

  standing : (n : ℕ) → has (is_shape n) t.rows ≡ true → (row : ShapeRow) × Stands n row (children_at (is_shape n) t.rows)
  standing n there =
      let x = find-has (is_shape n) t.rows (count-has (is_shape n) t.rows there) in (
        x.0,
        record { number = eqb-true x.0.node n (find-passes (is_shape n) t.rows x.0 x.1).0; found = x.1; below = refl },
      )

  -- the node and what is below it
  subtree : (n : ℕ) (row : ShapeRow) (kids : Forest ShapeRow) → Stands n row kids → pick (is_shape n) t.rows ≡ tree row kids nil
  subtree n row kids s =
      picked (is_shape n) t.rows row (lawful.once n) s.found ∙ ap (λ g. tree row g nil) s.below

  covered : (n : ℕ) (row : ShapeRow) (kids : Forest ShapeRow) → Stands n row kids
      → covers_node t rects px py n ≡ covers_point rects px py row
  covered n row kids s = ap (λ o. option_map_or (covers_point rects px py) o false) s.found

  -- what is at the point below a node that covers it
  at_node : (n : ℕ) (row : ShapeRow) (kids : Forest ShapeRow) → Stands n row kids → covers_node t rects px py n ≡ true
      → at_point t rects n px py ≡ first_of (hit (covers_point rects px py) kids) (Some n)
  unfolding hit
  at_node n row kids s e =
      ap (hit (covers_point rects px py)) (subtree n row kids s)
      ∙ one (covers_point rects px py) row kids nil (sym (covered n row kids s) ∙ e)
      ∙ ap (λ m. first_of (hit (covers_point rects px py) kids) (Some m)) s.number

  -- a node that does not cover it
  pub nothing_there : (n : ℕ) → has (is_shape n) t.rows ≡ true → (b : Bool) → b ≡ covers_node t rects px py n → b ≡ false
      → at_point t rects n px py ≡ None
  unfolding hit
  nothing_there n there b is false_is =
      let e : covers_node t rects px py n ≡ false = sym is ∙ false_is in
      let x = standing n there in
      let s = x.1 in
      ap (hit (covers_point rects px py)) (subtree n x.0 (children_at (is_shape n) t.rows) s)
      ∙ other (covers_point rects px py) x.0 (children_at (is_shape n) t.rows) nil (sym (covered n x.0 (children_at (is_shape n) t.rows) s) ∙ e)

  -- at a child there is what is at the node
  pub record Down (at child : ℕ) : Type 0 where
    pub there : has (is_shape child) t.rows ≡ true
    pub covers : covers_node t rects px py child ≡ true
    pub same : at_point t rects at px py ≡ at_point t rects child px py
    pub smaller : size t child < size t at

  tests : (g : Forest ShapeRow) → EachNode (Known t.rows) g
      → EachNode (λ row kids. covers_node t rects px py row.node ≡ covers_point rects px py row) g
  tests g k = each_weaker (Known t.rows) (λ row kids. covers_node t rects px py row.node ≡ covers_point rects px py row)
      (λ row kids x. covered row.node row kids (known row kids x)) g k

  kids_known : (n : ℕ) → EachNode (Known t.rows) (children_at (is_shape n) t.rows)
  kids_known n = each_below (Known t.rows) (is_shape n) t.rows (each_known t.rows lawful.once)

  sized : (n : ℕ) (row : ShapeRow) (kids : Forest ShapeRow) → Stands n row kids → size t n ≡ 1 + count (λ row. true) kids
  unfolding size
  sized n row kids s =
      let k = ap (count (λ (row : ShapeRow). true)) (subtree n row kids s) in
      omega arith

  found_kid : (c : ShapeRow) (kids : Forest ShapeRow) → Known t.rows c kids → has (is_shape c.node) t.rows ≡ true
  found_kid c kids k = has-count (is_shape c.node) t.rows (find-passes (is_shape c.node) t.rows c k.found).1

  -- the last child that covers the point, where there is one
  down_to : (at : ℕ) (row : ShapeRow) (kids : Forest ShapeRow) → Stands at row kids → covers_node t rects px py at ≡ true
      → (x : ShapeRow × Forest ShapeRow) → last_top (covers_point rects px py) kids ≡ Some x
      → IsTop (covers_point rects px py) (Known t.rows) kids x → Down at x.0.node
  unfolding below
  down_to at row kids s e x l top =
      let k = known x.0 x.1 top.has_it in
      let covers_it : covers_node t rects px py x.0.node ≡ true = covered x.0.node x.0 x.1 k ∙ top.passes in
      record {
        there = found_kid x.0 x.1 top.has_it;
        covers = covers_it;
        same =
            at_node at row kids s e
            ∙ ap (λ o. first_of o (Some at)) (hit_top (covers_point rects px py) kids ∙ ap (below (covers_point rects px py)) l)
            ∙ first_first (hit (covers_point rects px py) x.1) x.0.node (Some at)
            ∙ sym (at_node x.0.node x.0 x.1 k covers_it);
        smaller = (let a = sized at row kids s in let b = sized x.0.node x.0 x.1 k in let c = top.size in omega arith);
      }

  kids_tell : (at : ℕ) → last_of (covers_node t rects px py) (children_of at t)
      ≡ option_map (λ (x : ShapeRow × Forest ShapeRow). x.0.node) (last_top (covers_point rects px py) (children_at (is_shape at) t.rows))
  kids_tell at =
      by_number (covers_point rects px py) (covers_node t rects px py) (children_at (is_shape at) t.rows)
      (tests (children_at (is_shape at) t.rows) (kids_known at))

  pub goes_down : (at child : ℕ) → has (is_shape at) t.rows ≡ true → covers_node t rects px py at ≡ true
      → last_of (covers_node t rects px py) (children_of at t) ≡ Some child → Down at child
  goes_down at child there e l =
      by (last_top (covers_point rects px py) (children_at (is_shape at) t.rows)) refl (sym (kids_tell at) ∙ l)
    where
      by : (o : Option (ShapeRow × Forest ShapeRow)) → last_top (covers_point rects px py) (children_at (is_shape at) t.rows) ≡ o
          → option_map (λ (x : ShapeRow × Forest ShapeRow). x.0.node) o ≡ Some child → Down at child
      by None s z = cc
      by (Some x) s z =
          let y = standing at there in
          let is : x.0.node ≡ child = cc in
          subst (Down at) is
          (down_to at y.0 (children_at (is_shape at) t.rows) y.1 e x s
          (is_top (covers_point rects px py) (Known t.rows) (children_at (is_shape at) t.rows) x (kids_known at) s))

  pub ends_here : (at : ℕ) → has (is_shape at) t.rows ≡ true → covers_node t rects px py at ≡ true
      → last_of (covers_node t rects px py) (children_of at t) ≡ None → at_point t rects at px py ≡ Some at
  unfolding below
  ends_here at there e l =
      let y = standing at there in
      at_node at y.0 (children_at (is_shape at) t.rows) y.1 e
      ∙ ap (λ o. first_of o (Some at))
      (hit_top (covers_point rects px py) (children_at (is_shape at) t.rows)
      ∙ ap (below (covers_point rects px py)) (none (last_top (covers_point rects px py) (children_at (is_shape at) t.rows)) (sym (kids_tell at) ∙ l)))
    where
      none : (o : Option (ShapeRow × Forest ShapeRow)) → option_map (λ (x : ShapeRow × Forest ShapeRow). x.0.node) o ≡ None → o ≡ None
      none None z = refl
      none (Some x) z = cc
