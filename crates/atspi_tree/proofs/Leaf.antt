-- A node without children is taken out: the writes to the table, and the tree that it holds after them.
use Rattle.std.proofs.Common.{◌≡◌, ◌≢◌, ◌==◌, ℕ, zero, suc, ◌+◌, ◌≤◌, Bool, true, false, cond, not, Option, Some, None, List, [], ◌∷◌, length, refl, sym, ap, ◌∙◌, subst, arith}
use Rattle.std.specs.Prelude.{IsSome}
use Rattle.std.specs.Option.{option_map}
use Rattle.std.specs.Ordering.{nat_cmp}
use Rattle.std.specs.List.{list_any}
use Rattle.std.specs.BTreeMap.{is_at}
use Rattle.std.proofs.lemmas.Bool.{eqb-true, eq-eqb, ne_eqb}
use Rattle.atspi_tree_model.specs.declared.step.Step.TheVariants.{Remove}
use Rattle.atspi_tree_model.specs.Forest.{Forest, nil, tree, count, has, find, take_out, pick, join, relabel, children_at}
use Rattle.atspi_tree_model.specs.Map.{times}
use Rattle.atspi_tree_model.specs.Row.{ShapeRow, Holds, without_targets}
use Rattle.atspi_tree_model.specs.RowRules.{shapes, forgetting_shape}
use Rattle.atspi_tree_model.specs.Tree.{IsTree, Removes, is_shape, in_subtree, after}
use Rattle.atspi_tree_model.proofs.Counts.{count-parts}
use Rattle.atspi_tree_model.proofs.Found.{count-has, has-count, find-has, find-passes}
use Rattle.atspi_tree_model.proofs.Labels.{each_take_out}
use Rattle.atspi_tree_model.proofs.Lookup.{each-find}
use Rattle.atspi_tree_model.proofs.Maps.{tree_is_map}
use Rattle.atspi_tree_model.proofs.Relabel.{count-relabel, relabel-same}
use Rattle.atspi_tree_model.proofs.Seats.{pick-none, count-take_out}
use Rattle.atspi_tree.specs.declared.cell.Cell.{Cell}
use Rattle.atspi_tree.specs.Namers.{Namers, notes, KeepsOthers, IsNoted, Covers}
use Rattle.atspi_tree.specs.TreeShape.{TreeShape, numbers, children_of, parent_of}
use Rattle.atspi_tree.specs.Table.{Kept, look_in, HoldsBelow, IsHeld, ChangesAt, Prunes, Forgets, IsClean, forgets_target, without_child}
use Rattle.atspi_tree.proofs.Held.{found}
use Rattle.atspi_tree.proofs.Keys.{is_other}
use Rattle.atspi_tree.proofs.Moved.{holds-out, holds-apart, not_own, parent_there}
use Rattle.atspi_tree.proofs.Noted.{clean_relations}
use Rattle.atspi_tree.proofs.Rehung.{row_of_parent}
use Rattle.atspi_tree.proofs.Trees.{Holding, absent}

join-nil : {A : Type 0} (f : Forest A) → join f nil ≡ f
join-nil nil = refl
join-nil (tree a c r) = ap (tree a c) (join-nil r)

-- the one that passes, with its children
pub record IsPicked {A : Type 0} (p : A → Bool) (f : Forest A) : Type 0 where
  pub row : A
  pub passes : p row ≡ true
  pub is : pick p f ≡ tree row (children_at p f) nil

pub picked_one : {A : Type 0} (p : A → Bool) (f : Forest A) → count p f ≡ 1 → IsPicked p f
picked_one p nil h = absurd (omega arith)
picked_one {A = A} p (tree a c r) h = at (p a) refl (has p c) refl h (picked_one p c) (picked_one p r)
  where
    at : (b : Bool) → p a ≡ b → (d : Bool) → has p c ≡ d → cond b 1 0 + (count p c + count p r) ≡ 1
        → (count p c ≡ 1 → IsPicked p c) → (count p r ≡ 1 → IsPicked p r) → IsPicked p (tree a c r)
    at true e d k h ic ir = record { row = a; passes = e; is = rw (e, pick-none p r (omega arith)) refl }
    at false e true k h ic ir =
        let l = count-has p c k in
        let o = ic (omega arith) in
        record { row = o.row; passes = o.passes; is = rw (e, k, pick-none p r (omega arith)) (join-nil (pick p c) ∙ o.is) }
    at false e false k h ic ir =
        let none : count p c ≡ 0 = zero_of (count p c) refl in
        let o = ir (omega arith) in
        record { row = o.row; passes = o.passes; is = rw (e, k, pick-none p c none) o.is }
      where
        zero_of : (m : ℕ) → count p c ≡ m → count p c ≡ 0
        zero_of zero z = z
        zero_of (suc m) z = let y = has-count p c (omega arith) in cc

-- without numbers there is no child
no_child : (f : Forest ShapeRow) → numbers f ≡ [] → f ≡ nil
no_child nil e = refl
no_child (tree a c r) e = cc

-- a node without children, picked
pub record IsLeaf (f : Forest ShapeRow) (n : ℕ) : Type 0 where
  pub row : ShapeRow
  pub number : row.node ≡ n
  pub is : pick (is_shape n) f ≡ tree row nil nil

pub leaf_picked : (t : TreeShape) (n : ℕ) → IsTree shapes t.rows t.added → has (is_shape n) t.rows ≡ true → children_of n t ≡ [] → IsLeaf t.rows n
leaf_picked t n lawful there leaf =
    let l = count-has (is_shape n) t.rows there in
    let o = picked_one (is_shape n) t.rows (let k = lawful.once n in omega arith) in
    record { row = o.row; number = eqb-true o.row.node n o.passes; is = o.is ∙ ap (λ c. tree o.row c nil) (no_child (children_at (is_shape n) t.rows) leaf) }

-- how often a number stands in it
pub leaf_counts : (f : Forest ShapeRow) (n : ℕ) → IsLeaf f n → (j : ℕ) → count (is_shape j) (pick (is_shape n) f) ≡ cond (n == j) 1 0 + 0
leaf_counts f n x j = ap (λ g. count (is_shape j) g) x.is ∙ ap (λ m. cond {A = ℕ} (m == j) 1 0 + 0) x.number

-- whether it is in it
pub leaf_alone : (f : Forest ShapeRow) (n : ℕ) → IsLeaf f n → (m : ℕ) → in_subtree shapes n f m ≡ (m == n)
leaf_alone f n x m = ap (λ g. has (is_shape m) g) x.is ∙ ap (λ k. cond {A = Bool} (k == m) true false) x.number ∙ turned (n == m) refl
  where
    turned : (b : Bool) → (n == m) ≡ b → cond b true false ≡ (m == n)
    turned true e = sym (eq-eqb m n (sym (eqb-true n m e)))
    turned false e = sym (ne_eqb m n (λ k. let y = eq-eqb n m (sym k) in cc))

-- what is forgotten is that node alone
pub leaf_forgets : (f g : Forest ShapeRow) (n : ℕ) → IsLeaf f n → relabel (forgetting_shape (in_subtree shapes n f)) g ≡ relabel (forgetting_shape (λ m. m == n)) g
leaf_forgets f g n x =
    relabel-same (forgetting_shape (in_subtree shapes n f)) (forgetting_shape (λ m. m == n))
    (λ a. ap (λ (rs : List (ℕ × ℕ)). record a { relations = rs }) (same (in_subtree shapes n f) (λ m. m == n) (leaf_alone f n x) a.relations)) g
  where
    same : (u v : ℕ → Bool) → ((m : ℕ) → u m ≡ v m) → (rs : List (ℕ × ℕ)) → without_targets u rs ≡ without_targets v rs
    same u v e [] = refl
    same u v e (r ∷ rs) = rw (e r.1, same u v e rs) refl

eq_false : (m n : ℕ) → (m ≡ n → ⊥) → (m == n) ≡ false
eq_false m n ne = ne_eqb m n ne

-- a node that is removed is among the children of its parent once
listed_once : (t : TreeShape) (n q : ℕ) → IsTree shapes t.rows t.added → n ≢ 0 → has (is_shape n) t.rows ≡ true → times n (children_of q t) ≤ 1
listed_once t n q lawful nz there =
    let m = tree_is_map shapes t.rows t.added lawful in
    let o = m.in_one_list n nz (some_found (find-has (is_shape n) t.rows (count-has (is_shape n) t.rows there))) in
    at (q == o.0) o refl
  where
    some_found : (row : ShapeRow) × (find (is_shape n) t.rows ≡ Some row) → IsSome (find (is_shape n) t.rows)
    some_found (row, e) = rw e refl

    at : (b : Bool) → (o : (p : ℕ) × (times n (children_of p t) ≡ 1) × ((q : ℕ) → q ≢ p → times n (children_of q t) ≡ 0)) → (q == o.0) ≡ b → times n (children_of q t) ≤ 1
    at true o e = let k : times n (children_of q t) ≡ 1 = subst (λ p. times n (children_of p t) ≡ 1) (sym (eqb-true q o.0 e)) o.1 in omega arith
    at false o e = let k = o.2 q (λ s. let y = eq-eqb q o.0 s in cc) in omega arith

-- the node that is taken out, by its parent
module _ (es : List (ℕ × Cell)) (k n q : ℕ) (t : TreeShape) (h : Holding es k t) (m : Removes shapes t.rows n) (up : parent_of n t ≡ Some (Some q)) where
  n_there : 1 ≤ count (is_shape n) t.rows
  n_there = count-has (is_shape n) t.rows m.there

  no_up : None ≡ Some q → ⊥
  no_up e = cc

  kn : Kept
  kn = (row_of_parent es k n t (Some q) h m.there up).kept

  at_n : look_in es n ≡ Some kn
  unfolding kn
  at_n = (row_of_parent es k n t (Some q) h m.there up).there

  up_n : kn.parent ≡ Some q
  unfolding kn
  up_n = (row_of_parent es k n t (Some q) h m.there up).parent

  q_there : 1 ≤ count (is_shape q) t.rows
  q_there = parent_there (look_in es) n q kn at_n up_n None t.rows h.held.nodes n_there no_up

  pub not_its_own : (q == n) ≡ false
  not_its_own = eq_false q n (not_own (look_in es) n q kn at_n up_n None t.rows h.held.nodes n_there no_up)

  -- what a removal finds in the table
  pub is_listed : Holds (λ (x : Kept). times n x.children ≤ 1) (look_in es q)
  is_listed =
      let y = found (look_in es) q None 0 t.rows h.held.nodes (has-count (is_shape q) t.rows q_there) in
      subst (Holds (λ (x : Kept). times n x.children ≤ 1)) (sym y.is_kept) (listed_once t n q h.lawful m.not_root m.there)

  pub is_kept : Holds (λ (x : Kept). Unit {0}) (look_in es n)
  is_kept = subst (Holds (λ (x : Kept). Unit {0})) (sym at_n) tt

  -- the virtual table in which n is in no list
  out : ℕ → Option Kept
  out j = cond (j == q) (option_map (without_child n) (look_in es j)) (look_in es j)

  out_q : (x : Kept) → look_in es q ≡ Some x → out q ≡ Some (without_child n x)
  unfolding out
  out_q x e = rw (eq-eqb q q refl) (ap (λ (o : Option Kept). option_map (without_child n) o) e)

  out_others : (j : ℕ) → (j == q) ≡ false → out j ≡ look_in es j
  unfolding out
  out_others j e = rw e refl

  module _ (leaf : children_of n t ≡ []) (es2 : List (ℕ × Cell)) (d : Prunes es es2 q n) (size : length es2 + 1 ≡ length es) where
    -- with n out of the table
    seen_at : (j : ℕ) → (j == n) ≡ false → look_in es2 j ≡ out j
    seen_at j ne = at (j == q) refl
      where
        at : (b : Bool) → (j == q) ≡ b → look_in es2 j ≡ out j
        at true e =
            let y = found (look_in es) q None 0 t.rows h.held.nodes (has-count (is_shape q) t.rows q_there) in
            subst (λ x. look_in es2 x ≡ out x) (sym (eqb-true j q e)) (d.left _ y.is_kept ∙ sym (out_q _ y.is_kept))
        at false e = d.others j ne e ∙ sym (out_others j e)

    pub is_leaf : IsLeaf t.rows n
    is_leaf = leaf_picked t n h.lawful m.there leaf

    only_at : (j : ℕ) (b : Bool) → (n == j) ≡ b → count (is_shape j) (pick (is_shape n) t.rows) ≡ cond b 1 0 + 0 → count (is_shape j) (take_out (is_shape n) t.rows) ≡ 0
        → look_in es2 j ≡ None
    only_at j true e c z = subst (λ x. look_in es2 x ≡ None) (eqb-true n j e) d.gone
    only_at j false e c z =
        let a = count-parts (is_shape j) (is_shape n) t.rows in
        let none : count (is_shape j) t.rows ≡ 0 = omega arith in
        d.others j (ne_eqb j n (λ s. let y = eq-eqb n j (sym s) in cc))
        (ne_eqb j q (λ s. let y : count (is_shape q) t.rows ≡ 0 = subst (λ x. count (is_shape x) t.rows ≡ 0) s none in let l = q_there in omega arith))
        ∙ h.held.only j none

    pub pruned : IsHeld es2 (take_out (is_shape n) t.rows)
    pruned = record {
      nodes = holds-apart out (look_in es2) n n (λ j e _. seen_at j e) None (take_out (is_shape n) t.rows) (count-take_out (is_shape n) t.rows) (count-take_out (is_shape n) t.rows)
          (holds-out (look_in es) n q kn at_n up_n out out_q out_others None t.rows h.held.nodes);
      only = λ j z. only_at j (n == j) refl (leaf_counts t.rows n is_leaf j) z;
      size = (let a = count-parts (λ row. true) (is_shape n) t.rows in let b = h.held.size in
          let c : count (λ row. true) (pick (is_shape n) t.rows) ≡ 1 = ap (count (λ row. true)) is_leaf.is in omega arith);
    }

    -- a node that is not noted names n in no relation
    pub clean : (old mid : Namers) → KeepsOthers old mid n → Covers old t.rows → (j : ℕ) → notes mid n j ≡ false → IsClean n (look_in es2 j)
    clean old mid others covers j z = at (has (is_shape j) (take_out (is_shape n) t.rows)) refl
      where
        other : (b : Bool) → (j == n) ≡ b → has (is_shape j) (take_out (is_shape n) t.rows) ≡ true → (j == n) ≡ false
        other true y e =
            let l = count-has (is_shape j) (take_out (is_shape n) t.rows) e in
            let none : count (is_shape j) (take_out (is_shape n) t.rows) ≡ 0 = subst (λ x. count (is_shape x) (take_out (is_shape n) t.rows) ≡ 0) (sym (eqb-true j n y)) (count-take_out (is_shape n) t.rows) in
            absurd (omega arith)
        other false y e = y

        at : (b : Bool) → has (is_shape j) (take_out (is_shape n) t.rows) ≡ b → IsClean n (look_in es2 j)
        at true e =
            let y = found (look_in es2) j None 0 (take_out (is_shape n) t.rows) pruned.nodes e in
            let noted : IsNoted old y.row =
            each-find (IsNoted old) (is_shape j) (take_out (is_shape n) t.rows) y.row (each_take_out (IsNoted old) (is_shape n) t.rows covers) y.is_row in
            let number : y.row.node ≡ j = eqb-true y.row.node j (find-passes (is_shape j) (take_out (is_shape n) t.rows) y.row y.is_row).0 in
            subst (IsClean n) (sym y.is_kept)
            (ap (λ (rs : List (ℕ × ℕ)). Some (record { row = record y.row { relations = rs }; children = numbers (children_at (is_shape j) (take_out (is_shape n) t.rows)); parent = y.parent }))
            (clean_relations old n y.row.node y.row.relations noted (subst (λ x. notes old n x ≡ false) (sym number) (sym (others n j (other (j == n) refl e)) ∙ z))))
        at false e = subst (IsClean n) (sym (pruned.only j (absent (take_out (is_shape n) t.rows) j e))) refl

    -- where no relation has the target any more, the table holds the tree after the removal
    pub taken : (es3 : List (ℕ × Cell)) → Forgets es2 es3 n → length es3 ≡ length es2 → IsHeld es3 (after shapes t.rows (Remove n))
    taken es3 forgets same_size =
        subst (IsHeld es3) (sym (leaf_forgets t.rows (take_out (is_shape n) t.rows) n is_leaf)) (record {
          nodes = relabelled None (take_out (is_shape n) t.rows) pruned.nodes;
          only = λ j z. forgets j ∙ ap (option_map (forgets_target n)) (pruned.only j (sym (count-relabel (forgetting_shape (λ m. m == n)) (is_shape j) (is_shape j) (λ a. refl) (take_out (is_shape n) t.rows)) ∙ z));
          size = count-relabel (forgetting_shape (λ m. m == n)) (λ row. true) (λ row. true) (λ a. refl) (take_out (is_shape n) t.rows) ∙ (pruned.size ∙ sym same_size);
        })
      where
        tops_same : (g : Forest ShapeRow) → numbers (relabel (forgetting_shape (λ m. m == n)) g) ≡ numbers g
        tops_same nil = refl
        tops_same (tree a c r) = ap (λ l. a.node ∷ l) (tops_same r)

        relabelled : (up : Option ℕ) (g : Forest ShapeRow) → HoldsBelow (look_in es2) up g → HoldsBelow (look_in es3) up (relabel (forgetting_shape (λ m. m == n)) g)
        relabelled up nil x = tt
        relabelled up (tree a c r) x = (
          rw (tops_same c) (forgets a.node ∙ ap (option_map (forgets_target n)) x.0),
          relabelled (Some a.node) c x.1,
          relabelled up r x.2,
        )

-- the two writes of a removal
pub prunes : (es es1 es2 : List (ℕ × Cell)) (p n : ℕ) → (p == n) ≡ false → Holds (λ (k : Kept). times n k.children ≤ 1) (look_in es p)
    → ((k : Kept) → look_in es p ≡ Some k → ChangesAt es es1 p (without_child n k))
    → look_in es2 n ≡ None → ((m : ℕ) → (m == n) ≡ false → look_in es2 m ≡ look_in es1 m) → Prunes es es2 p n
prunes es es1 es2 p n ne there w gone rest = at (look_in es p) refl there
  where
    at : (o : Option Kept) → look_in es p ≡ o → Holds (λ (k : Kept). times n k.children ≤ 1) o → Prunes es es2 p n
    at None e h = absurd h
    at (Some kp) e h =
        let first = w kp e in
        record {
          gone = gone;
          left = λ k z. rest p ne ∙ (first.here ∙ ap (λ (o : Option Kept). option_map (without_child n) o) (sym e ∙ z));
          others = λ m a b. rest m a ∙ first.others m b;
        }

-- the node is still there after the first of them
pub still_kept : (es es1 : List (ℕ × Cell)) (p n : ℕ) → (p == n) ≡ false → Holds (λ (k : Kept). times n k.children ≤ 1) (look_in es p)
    → ((k : Kept) → look_in es p ≡ Some k → ChangesAt es es1 p (without_child n k)) → Holds (λ (k : Kept). Unit {0}) (look_in es n) → Holds (λ (k : Kept). Unit {0}) (look_in es1 n)
still_kept es es1 p n ne there w here = at (look_in es p) refl there
  where
    at : (o : Option Kept) → look_in es p ≡ o → Holds (λ (k : Kept). times n k.children ≤ 1) o → Holds (λ (k : Kept). Unit {0}) (look_in es1 n)
    at None e h = absurd h
    at (Some kp) e h = subst (Holds (λ (k : Kept). Unit {0})) (sym ((w kp e).others n (ne_eqb n p (λ s. let y = eq-eqb p n (sym s) in cc)))) here

-- a target is forgotten at one node after another
forgotten_twice : (n : ℕ) (rs : List (ℕ × ℕ)) → without_targets (λ t. t == n) (without_targets (λ t. t == n) rs) ≡ without_targets (λ t. t == n) rs
forgotten_twice n [] = refl
forgotten_twice n (r ∷ rs) = at (r.1 == n) refl (forgotten_twice n rs)
  where
    at : (b : Bool) → (r.1 == n) ≡ b → without_targets (λ t. t == n) (without_targets (λ t. t == n) rs) ≡ without_targets (λ t. t == n) rs
        → without_targets (λ t. t == n) (cond (not b) (r ∷ without_targets (λ t. t == n) rs) (without_targets (λ t. t == n) rs))
        ≡ cond (not b) (r ∷ without_targets (λ t. t == n) rs) (without_targets (λ t. t == n) rs)
    at true e k = k
    at false e k = rw e (ap (λ l. r ∷ l) k)

always_clean : (n : ℕ) (o : Option Kept) → IsClean n (option_map (forgets_target n) o)
always_clean n None = refl
always_clean n (Some k) = ap (λ (rs : List (ℕ × ℕ)). Some (record k { row = record k.row { relations = rs } })) (forgotten_twice n k.row.relations)

-- all but these nodes are rid of the target, and nothing else changed
pub record IsForgetting (target : ℕ) (first now : List (ℕ × Cell)) (rest : List ℕ) : Type 0 where
  pub same : (m : ℕ) → option_map (forgets_target target) (look_in now m) ≡ option_map (forgets_target target) (look_in first m)
  pub clean : (m : ℕ) → list_any (is_at (nat_cmp m)) rest ≡ false → IsClean target (look_in now m)
  pub size : length now ≡ length first

pub forgetting_next : (target : ℕ) (first now new : List (ℕ × Cell)) (node : ℕ) (rest : List ℕ) → IsForgetting target first now (node ∷ rest)
    → look_in new node ≡ option_map (forgets_target target) (look_in now node) → ((m : ℕ) → (m == node) ≡ false → look_in new m ≡ look_in now m) → length new ≡ length now
    → IsForgetting target first new rest
forgetting_next target first now new node rest h here others size = record {
  same = λ m. same_at m (m == node) refl;
  clean = λ m out. clean_at m out (m == node) refl;
  size = size ∙ h.size;
}
  where
    same_at : (m : ℕ) (b : Bool) → (m == node) ≡ b → option_map (forgets_target target) (look_in new m) ≡ option_map (forgets_target target) (look_in first m)
    same_at m true e =
        subst (λ x. option_map (forgets_target target) (look_in new x) ≡ option_map (forgets_target target) (look_in first x)) (sym (eqb-true m node e))
        (ap (option_map (forgets_target target)) here ∙ always_clean target (look_in now node) ∙ h.same node)
    same_at m false e = ap (option_map (forgets_target target)) (others m e) ∙ h.same m

    clean_at : (m : ℕ) → list_any (is_at (nat_cmp m)) rest ≡ false → (b : Bool) → (m == node) ≡ b → IsClean target (look_in new m)
    clean_at m out true e =
        subst (λ x. IsClean target (look_in new x)) (sym (eqb-true m node e)) (subst (IsClean target) (sym here) (always_clean target (look_in now node)))
    clean_at m out false e =
        subst (IsClean target) (sym (others m e)) (h.clean m (rw (is_other m node (ne_eqb node m (λ s. let y = eq-eqb m node (sym s) in cc))) out))

pub forgetting_all : (target : ℕ) (first now : List (ℕ × Cell)) → IsForgetting target first now [] → Forgets first now target
forgetting_all target first now h m = sym (h.clean m refl) ∙ h.same m

-- where no node is noted, nothing has to be forgotten
pub nothing_to_forget : (es : List (ℕ × Cell)) (target : ℕ) → ((m : ℕ) → IsClean target (look_in es m)) → Forgets es es target
nothing_to_forget es target clean m = sym (clean m)
