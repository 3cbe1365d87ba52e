-- What a reader makes of the items of a tree is the view of that tree, with no part known.
use Rattle.std.proofs.Common.{◌≡◌, ℕ, zero, suc, ◌+◌, ◌≤◌, Bool, true, false, cond, not, refl, sym, ap, ◌∙◌, subst, arith, append_assoc}
use Rattle.std.specs.Prelude.{List, [], ◌∷◌, ◌++◌, ◌==◌, ℤ, pos, negsuc, length, filter}
use Rattle.std.specs.Str.{bytes_eq}
use Rattle.std.proofs.lemmas.Slice.Eq.{bytes_eq-Decides}
use Rattle.std.proofs.lemmas.Bool.{eqb-true, eq-eqb, ne_eqb, le-leb}
use Rattle.std.proofs.lemmas.List.{length-append, append-nil}
use Rattle.std.proofs.lemmas.List.Elements.{filter-append}
use Rattle.atspi_tree_model.specs.declared.news.Reference.{Reference}
use Rattle.atspi_tree_model.specs.declared.news.Item.{Item}
use Rattle.atspi_tree_model.specs.Forest.{Forest, nil, tree, count, width, relabel, grow, EachLabel, EachNode}
use Rattle.atspi_tree_model.specs.Row.{TreeRow}
use Rattle.atspi_tree_model.specs.RowRules.{rows}
use Rattle.atspi_tree_model.specs.Tree.{is_node, IsRooted, IsTree}
use Rattle.atspi_tree_model.specs.Path.{path_of}
use Rattle.atspi_tree_model.specs.View.{nothing_told, shown, view}
use Rattle.atspi_tree_model.specs.News.{fresh, is_same_object, firsts, by_index, children_in, own_items, load}
use Rattle.atspi_tree_model.specs.Announce.{own, item_of, items_below, items}
use Rattle.atspi_tree_model.proofs.Path.{path_of_apart}
use Rattle.atspi_tree_model.proofs.Seen.{self, fresh_row}

-- from a property of each node to another, where the node is one that is counted
pub EachNode-weaker : {A : Type 0} (test : A → A → Bool) (self : (a : A) → test a a ≡ true) (P Q : A → Forest A → Type 0) (f whole : Forest A) → ((p : A → Bool) → count p f ≤ count p whole)
    → ((a : A) (c : Forest A) → 1 ≤ count (test a) whole → P a c → Q a c) → EachNode P f → EachNode Q f
EachNode-weaker test self P Q nil whole le w e = tt
EachNode-weaker {A = A} test self P Q (tree a c r) whole le w e = (
  w a c (at (test a a) (self a) (le (test a))) e.0,
  EachNode-weaker test self P Q c whole (λ p. let k : count p (tree a c r) ≤ count p whole = le p in omega arith) w e.1,
  EachNode-weaker test self P Q r whole (λ p. let k : count p (tree a c r) ≤ count p whole = le p in omega arith) w e.2,
)
  where
    at : (b : Bool) → b ≡ true → cond b 1 0 + (count (test a) c + count (test a) r) ≤ count (test a) whole
        → 1 ≤ count (test a) whole
    at true e l = omega arith
    at false e l = cc

filter-none : {X : Type 0} (p : X → Bool) (xs ys : List X) → filter p xs ≡ [] → filter p ys ≡ []
    → filter p (xs ++ ys) ≡ []
filter-none p xs ys h k = filter-append p xs ys ∙ (rw (h, k) refl)

filter-rest : {X : Type 0} (p : X → Bool) (xs : List X) → filter p xs ≡ [] → filter (λ x. not (p x)) xs ≡ xs
filter-rest p [] h = refl
filter-rest {X = X} p (x ∷ xs) h = at (p x) (filter-rest p xs) h
  where
    at : (b : Bool) → (filter p xs ≡ [] → filter (λ x. not (p x)) xs ≡ xs)
        → cond b (x ∷ filter p xs) (filter p xs) ≡ []
        → cond (not b) (x ∷ filter (λ x. not (p x)) xs) (filter (λ x. not (p x)) xs) ≡ x ∷ xs
    at true ih h = cc
    at false ih h = ap (λ l. x ∷ l) (ih h)

filter-all : {X : Type 0} (p : X → Bool) (xs ys : List X) → filter p xs ≡ xs → filter p ys ≡ ys
    → filter p (xs ++ ys) ≡ xs ++ ys
filter-all p xs ys h k = filter-append p xs ys ∙ (rw (h, k) refl)

module _ (bus : List ℕ) where
  same_path : (n : ℕ) → bytes_eq (path_of n) (path_of n) ≡ true
  same_path n = (bytes_eq-Decides (path_of n) (path_of n)).1 refl

  same_bus : bytes_eq bus bus ≡ true
  same_bus = (bytes_eq-Decides bus bus).1 refl

  path_test : (m n : ℕ) (b : Bool) → (m == n) ≡ b → bytes_eq (path_of m) (path_of n) ≡ b
  path_test m n true e = rw (eqb-true m n e) (same_path n)
  path_test m n false e = at (bytes_eq (path_of m) (path_of n)) refl
    where
      at : (b : Bool) → bytes_eq (path_of m) (path_of n) ≡ b → bytes_eq (path_of m) (path_of n) ≡ false
      at true k = let x : m ≡ n = path_of_apart m n ((bytes_eq-Decides (path_of m) (path_of n)).0 k) in let y = eq-eqb m n x in cc
      at false k = k

  -- the number of a node that is counted 0 times is none of these
  not_counted : (n : ℕ) (row : TreeRow) (c r : Forest TreeRow) → count (is_node n) (tree row c r) ≡ 0
      → (row.shape.node == n) ≡ false
  not_counted n row c r z = at (row.shape.node == n) refl z
    where
      at : (b : Bool) → (row.shape.node == n) ≡ b → cond b 1 0 + (count (is_node n) c + count (is_node n) r) ≡ 0
          → (row.shape.node == n) ≡ false
      at true e z = absurd (omega arith)
      at false e z = e

  abbrev is_object : ℕ → Item → Bool
  is_object n it = bytes_eq it.object.path (path_of n)

  -- no item of a node that is not there
  no_object : (n : ℕ) (up : Reference) (i : ℕ) (s : Forest TreeRow) → count (is_node n) s ≡ 0
      → filter (is_object n) (items_below bus up i s) ≡ []
  no_object n up i nil z = refl
  no_object n up i (tree row c r) z =
      rw (path_test row.shape.node n false (not_counted n row c r z))
      (filter-none (is_object n) (items_below bus (own bus row.shape.node) 0 c) (items_below bus up (suc i) r)
      (no_object n (own bus row.shape.node) 0 c (omega arith)) (no_object n up (suc i) r (omega arith)))

  all_own : (up : Reference) (i : ℕ) (s : Forest TreeRow)
      → filter (λ (it : Item). bytes_eq it.object.bus bus) (items_below bus up i s) ≡ items_below bus up i s
  all_own up i nil = refl
  all_own up i (tree row c r) =
      rw same_bus (ap (λ l. item_of bus up (pos i) (width c) row ∷ l)
      (filter-all (λ (it : Item). bytes_eq it.object.bus bus) (items_below bus (own bus row.shape.node) 0 c) (items_below bus up (suc i) r) (all_own (own bus row.shape.node) 0 c) (all_own up (suc i) r)))

  -- no two items have one object
  abbrev Distinct : List Item → Type 0
  Distinct [] = Unit {0}
  Distinct (x ∷ xs) = (filter (λ y. is_same_object y x) xs ≡ []) × Distinct xs

  firsts-distinct : (xs : List Item) → Distinct xs → firsts xs ≡ xs
  firsts-distinct [] d = refl
  firsts-distinct (x ∷ xs) d = rw (firsts-distinct xs d.1) (ap (λ l. x ∷ l) (filter-rest (λ y. is_same_object y x) xs d.0))

  distinct : (up : Reference) (i : ℕ) (s : Forest TreeRow) (rest : List Item) → ((n : ℕ) → count (is_node n) s ≤ 1)
      → ((n : ℕ) → 1 ≤ count (is_node n) s → filter (is_object n) rest ≡ []) → Distinct rest
      → Distinct (items_below bus up i s ++ rest)
  distinct up i nil rest once none d = d
  distinct up i (tree row c r) rest once none d =
      let here = once row.shape.node in
      let one : cond {A = ℕ} (row.shape.node == row.shape.node) 1 0 ≡ 1 = ap (λ b. cond {A = ℕ} b 1 0) (eq-eqb row.shape.node row.shape.node refl) in
      subst (λ l. Distinct (item_of bus up (pos i) (width c) row ∷ l)) (sym (append_assoc (items_below bus (own bus row.shape.node) 0 c) (items_below bus up (suc i) r) rest)) (
        filter-none (is_object row.shape.node) (items_below bus (own bus row.shape.node) 0 c) (items_below bus up (suc i) r ++ rest)
            (no_object row.shape.node (own bus row.shape.node) 0 c (omega arith))
            (filter-none (is_object row.shape.node) (items_below bus up (suc i) r) rest (no_object row.shape.node up (suc i) r (omega arith)) (none row.shape.node (omega arith))),
        distinct (own bus row.shape.node) 0 c (items_below bus up (suc i) r ++ rest) (λ n. let k = once n in omega arith)
            (λ n l. filter-none (is_object n) (items_below bus up (suc i) r) rest (no_object n up (suc i) r (let k = once n in omega arith)) (none n (omega arith)))
            (distinct up (suc i) r rest (λ n. let k = once n in omega arith) (λ n l. none n (omega arith)) d),
      )

  -- the items of the trees at the top
  abbrev tops : Reference → ℕ → Forest TreeRow → List Item
  tops up i nil = []
  tops up i (tree row c r) = item_of bus up (pos i) (width c) row ∷ tops up (suc i) r

  -- an item is a child of node n
  abbrev child_of : ℕ → Item → Bool
  child_of n it = cond (bytes_eq it.object.path (path_of 0)) false (cond (bytes_eq it.parent.bus bus) (bytes_eq it.parent.path (path_of n)) false)

  -- no child of a node that is not there, below another parent
  no_child : (n m : ℕ) (i : ℕ) (s : Forest TreeRow) → (m == n) ≡ false → count (is_node n) s ≡ 0
      → filter (child_of n) (items_below bus (own bus m) i s) ≡ []
  no_child n m i nil ne z = refl
  no_child n m i (tree row c r) ne z =
      rw (same_bus, path_test m n false ne)
      (at (bytes_eq (path_of row.shape.node) (path_of 0))
      (filter-none (child_of n) (items_below bus (own bus row.shape.node) 0 c) (items_below bus (own bus m) (suc i) r)
      (no_child n row.shape.node 0 c (not_counted n row c r z) (omega arith)) (no_child n m (suc i) r ne (omega arith))))
    where
      at : (b : Bool) {xs : List Item} → xs ≡ []
          → cond (cond b false false) (item_of bus (own bus m) (pos i) (width c) row ∷ xs) xs ≡ []
      at true e = e
      at false e = e

  -- the children of a node that is not among what is below it
  own_children : (n i : ℕ) (s : Forest TreeRow) → count (is_node n) s ≡ 0 → count (is_node 0) s ≡ 0
      → filter (child_of n) (items_below bus (own bus n) i s) ≡ tops (own bus n) i s
  own_children n i nil z z0 = refl
  own_children n i (tree row c r) z z0 =
      rw (path_test row.shape.node 0 false (not_counted 0 row c r z0), same_bus, same_path n)
      (ap (λ l. item_of bus (own bus n) (pos i) (width c) row ∷ l)
      (filter-append (child_of n) (items_below bus (own bus row.shape.node) 0 c) (items_below bus (own bus n) (suc i) r)
      ∙ rw (no_child n row.shape.node 0 c (not_counted n row c r z) (omega arith), own_children n (suc i) r (omega arith) (omega arith)) refl))

  filter-first : {X : Type 0} (p : X → Bool) (x : X) (xs ys zs : List X) → p x ≡ false → filter p xs ≡ zs
      → filter p ys ≡ [] → filter p (x ∷ xs ++ ys) ≡ zs
  filter-first p x xs ys zs e h k = rw e (filter-append p xs ys ∙ (rw (h, k) (append-nil zs)))

  filter-second : {X : Type 0} (p : X → Bool) (x : X) (xs ys zs : List X) → p x ≡ false → filter p xs ≡ []
      → filter p ys ≡ zs → filter p (x ∷ xs ++ ys) ≡ zs
  filter-second p x xs ys zs e h k = rw e (filter-append p xs ys ∙ (rw (h, k) refl))

  not_below : (n m i w : ℕ) (row : TreeRow) → (m == n) ≡ false
      → child_of n (item_of bus (own bus m) (pos i) w row) ≡ false
  not_below n m i w row ne = rw (same_bus, path_test m n false ne) (at (bytes_eq (path_of row.shape.node) (path_of 0)))
    where
      at : (b : Bool) → cond b false false ≡ false
      at true = refl
      at false = refl

  differs : (m n : ℕ) (s : Forest TreeRow) → count (is_node m) s ≡ 0 → 1 ≤ count (is_node n) s → (m == n) ≡ false
  differs m n s z l = ne_eqb m n (λ e. let k : 1 ≤ count (is_node m) s = subst (λ j. 1 ≤ count (is_node j) s) (sym e) l in omega arith)

  -- in the items below a parent, the children of each node are those of its top
  each_children : (m i : ℕ) (s : Forest TreeRow) → ((n : ℕ) → count (is_node n) s ≤ 1) → count (is_node m) s ≡ 0
      → count (is_node 0) s ≡ 0
      → EachNode (λ row c. filter (child_of row.shape.node) (items_below bus (own bus m) i s) ≡ tops (own bus row.shape.node) 0 c) s
  each_children m i nil once z z0 = tt
  each_children m i (tree row c r) once z z0 =
      let one : cond {A = ℕ} (row.shape.node == row.shape.node) 1 0 ≡ 1 = ap (λ b. cond {A = ℕ} b 1 0) (eq-eqb row.shape.node row.shape.node refl) in
      let here = once row.shape.node in
      let apart_up : (m == row.shape.node) ≡ false = ne_eqb m row.shape.node (λ e. let k : cond {A = ℕ} (row.shape.node == m) 1 0 ≡ 1 = ap (λ b. cond {A = ℕ} b 1 0) (eq-eqb row.shape.node m (sym e)) in omega arith) in (
        filter-first (child_of row.shape.node) (item_of bus (own bus m) (pos i) (width c) row) (items_below bus (own bus row.shape.node) 0 c) (items_below bus (own bus m) (suc i) r) (tops (own bus row.shape.node) 0 c)
            (not_below row.shape.node m i (width c) row apart_up)
            (own_children row.shape.node 0 c (omega arith) (omega arith))
            (no_child row.shape.node m (suc i) r apart_up (omega arith)),
        EachNode-weaker (λ (a b : TreeRow). is_node a.shape.node b) self
            (λ x k. filter (child_of x.shape.node) (items_below bus (own bus row.shape.node) 0 c) ≡ tops (own bus x.shape.node) 0 k)
            (λ x k. filter (child_of x.shape.node) (items_below bus (own bus m) i (tree row c r)) ≡ tops (own bus x.shape.node) 0 k)
            c c (λ p. omega arith)
            (λ x k l e.
            let up : (m == x.shape.node) ≡ false = differs m x.shape.node c (omega arith) l in
            let o = once x.shape.node in
            filter-first (child_of x.shape.node) (item_of bus (own bus m) (pos i) (width c) row) (items_below bus (own bus row.shape.node) 0 c) (items_below bus (own bus m) (suc i) r) (tops (own bus x.shape.node) 0 k)
            (not_below x.shape.node m i (width c) row up) e (no_child x.shape.node m (suc i) r up (omega arith)))
            (each_children row.shape.node 0 c (λ n. let k = once n in omega arith) (omega arith) (omega arith)),
        EachNode-weaker (λ (a b : TreeRow). is_node a.shape.node b) self
            (λ x k. filter (child_of x.shape.node) (items_below bus (own bus m) (suc i) r) ≡ tops (own bus x.shape.node) 0 k)
            (λ x k. filter (child_of x.shape.node) (items_below bus (own bus m) i (tree row c r)) ≡ tops (own bus x.shape.node) 0 k)
            r r (λ p. omega arith)
            (λ x k l e.
            let up : (m == x.shape.node) ≡ false = differs m x.shape.node r (omega arith) l in
            let o = once x.shape.node in
            let side : (row.shape.node == x.shape.node) ≡ false = differs row.shape.node x.shape.node r (omega arith) l in
            filter-second (child_of x.shape.node) (item_of bus (own bus m) (pos i) (width c) row) (items_below bus (own bus row.shape.node) 0 c) (items_below bus (own bus m) (suc i) r) (tops (own bus x.shape.node) 0 k)
            (not_below x.shape.node m i (width c) row up) (no_child x.shape.node row.shape.node 0 c side (omega arith)) e)
            (each_children m (suc i) r (λ n. let k = once n in omega arith) (omega arith) (omega arith)),
      )

  by_index-tops : (up : Reference) (i : ℕ) (s : Forest TreeRow) → by_index (tops up i s) ≡ tops up i s
  by_index-tops up i nil = refl
  by_index-tops up i (tree row c nil) = refl
  by_index-tops up i (tree row c (tree row' c' r)) =
      rw (by_index-tops up (suc i) (tree row' c' r)) (rw (le-leb i (suc i) (omega arith)) refl)

  abbrev item_forest : Reference → ℕ → Forest TreeRow → Forest Item
  item_forest up i nil = nil
  item_forest up i (tree row c r) = tree (item_of bus up (pos i) (width c) row) (item_forest (own bus row.shape.node) 0 c) (item_forest up (suc i) r)

  -- where each item's children are found, the trees grow as they were
  grown : (kids : Item → List Item) (n : ℕ) (up : Reference) (i : ℕ) (s : Forest TreeRow) → count (λ row. true) s ≤ n
      → EachNode (λ row c. (above : Reference) (j : ℤ) (w : ℕ) → kids (item_of bus above j w row) ≡ tops (own bus row.shape.node) 0 c) s
      → grow n kids (tops up i s) ≡ item_forest up i s
  grown kids zero up i nil l e = refl
  grown kids (suc n) up i nil l e = refl
  grown kids zero up i (tree row c r) l e = absurd (omega arith)
  grown kids (suc n) up i (tree row c r) l e =
      rw (e.0 up (pos i) (width c), grown kids n (own bus row.shape.node) 0 c (omega arith) e.1)
      (ap (tree (item_of bus up (pos i) (width c) row) (item_forest (own bus row.shape.node) 0 c)) (grown kids (suc n) up (suc i) r (omega arith) e.2))

  -- the row of each item is the row of its node, of which nothing was told
  fresh_of : (up : Reference) (j : ℤ) (w : ℕ) (row : TreeRow) → rows.IsLawful row
      → fresh (item_of bus up j w row) ≡ shown nothing_told row
  fresh_of up j w row l = fresh_row bus nothing_told up j w row (refl, refl, refl) l.1.text l.1.table

  fresh_forest : (up : Reference) (i : ℕ) (s : Forest TreeRow) → EachLabel rows.IsLawful s
      → relabel fresh (item_forest up i s) ≡ view nothing_told s
  fresh_forest up i nil l = refl
  fresh_forest up i (tree row c r) l = rw (fresh_of up (pos i) (width c) row l.0, fresh_forest (own bus row.shape.node) 0 c l.1, fresh_forest up (suc i) r l.2) refl

  length-items : (up : Reference) (i : ℕ) (s : Forest TreeRow)
      → length (items_below bus up i s) ≡ count (λ row. true) s
  length-items up i nil = refl
  length-items up i (tree row c r) = omega (arith, length-append (items_below bus (own bus row.shape.node) 0 c) (items_below bus up (suc i) r), length-items (own bus row.shape.node) 0 c, length-items up (suc i) r)

  filter-skip : {X : Type 0} (p : X → Bool) (x : X) (xs zs : List X) → p x ≡ false → filter p xs ≡ zs
      → filter p (x ∷ xs) ≡ zs
  filter-skip p x xs zs e h = rw e h

  load_root : (registry : Reference) (row : TreeRow) (c : Forest TreeRow) → row.shape.node ≡ 0
      → ((n : ℕ) → count (is_node n) (tree row c nil) ≤ 1) → EachLabel rows.IsLawful (tree row c nil)
      → load (path_of 0) bus (items bus registry (tree row c nil)) ≡ view nothing_told (tree row c nil)
  load_root registry row c z once lawful =
      rw (owned, roots, kids_of_root, ends)
      (rw (fresh_of registry (negsuc 0) (width c) row lawful.0, fresh_forest (own bus row.shape.node) 0 c lawful.1) refl)
    where
      root : Item
      root = item_of bus registry (negsuc 0) (width c) row

      below : List Item
      below = items_below bus (own bus row.shape.node) 0 c

      one : cond {A = ℕ} (row.shape.node == 0) 1 0 ≡ 1
      one = ap (λ b. cond {A = ℕ} b 1 0) (eq-eqb row.shape.node 0 z)

      none : count (is_node 0) c ≡ 0
      none = let k = once 0 in let o = one in omega arith

      once_below : (n : ℕ) → count (is_node n) c ≤ 1
      once_below n = let k = once n in omega arith

      none' : count (is_node row.shape.node) c ≡ 0
      none' = rw z none

      no_root : (n : ℕ) → child_of n root ≡ false
      no_root n = rw (path_test row.shape.node 0 true (eq-eqb row.shape.node 0 z)) refl

      owned : own_items bus (root ∷ below) ≡ root ∷ below
      owned =
          rw (same_bus, all_own (own bus row.shape.node) 0 c)
          (firsts-distinct (root ∷ below) (
            no_object row.shape.node (own bus row.shape.node) 0 c none',
            subst Distinct (append-nil below) (distinct (own bus row.shape.node) 0 c [] once_below (λ n l. refl) tt),
          ))

      roots : filter (λ (it : Item). bytes_eq it.object.path (path_of 0)) (root ∷ below) ≡ root ∷ []
      roots = rw (path_test row.shape.node 0 true (eq-eqb row.shape.node 0 z)) (ap (λ l. root ∷ l) (no_object 0 (own bus row.shape.node) 0 c none))

      kids_of_root : children_in (path_of 0) bus (root ∷ below) root ≡ tops (own bus row.shape.node) 0 c
      kids_of_root =
          ap by_index (filter-skip (child_of row.shape.node) root below (tops (own bus row.shape.node) 0 c) (no_root row.shape.node) (own_children row.shape.node 0 c none' none))
          ∙ by_index-tops (own bus row.shape.node) 0 c

      ends : grow (suc (length below)) (children_in (path_of 0) bus (root ∷ below)) (tops (own bus row.shape.node) 0 c) ≡ item_forest (own bus row.shape.node) 0 c
      ends =
          grown (children_in (path_of 0) bus (root ∷ below)) (suc (length below)) (own bus row.shape.node) 0 c (omega (arith, length-items (own bus row.shape.node) 0 c))
          (EachNode-weaker (λ (a b : TreeRow). is_node a.shape.node b) self
          (λ x k. filter (child_of x.shape.node) below ≡ tops (own bus x.shape.node) 0 k)
          (λ x k. (above : Reference) (j : ℤ) (w : ℕ) → children_in (path_of 0) bus (root ∷ below) (item_of bus above j w x) ≡ tops (own bus x.shape.node) 0 k)
          c c (λ p. omega arith)
          (λ x k l e above j w.
          ap by_index (filter-skip (child_of x.shape.node) root below (tops (own bus x.shape.node) 0 k) (no_root x.shape.node) e)
          ∙ by_index-tops (own bus x.shape.node) 0 k)
          (each_children row.shape.node 0 c once_below none' none))

  pub load_items : (registry : Reference) (f : Forest TreeRow) (k : ℕ) → IsTree rows f k
      → load (path_of 0) bus (items bus registry f) ≡ view nothing_told f
  load_items registry f k t = at f t.rooted t.once t.lawful
    where
      at : (g : Forest TreeRow) → IsRooted rows g → ((n : ℕ) → count (is_node n) g ≤ 1) → EachLabel rows.IsLawful g
          → load (path_of 0) bus (items bus registry g) ≡ view nothing_told g
      at g (row, c, z, e) once lawful =
          subst (λ h. ((n : ℕ) → count (is_node n) h ≤ 1) → EachLabel rows.IsLawful h → load (path_of 0) bus (items bus registry h) ≡ view nothing_told h) (sym e) (load_root registry row c z) once lawful
