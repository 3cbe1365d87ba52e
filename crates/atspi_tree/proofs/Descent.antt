-- Going down from a node to a leaf below it, and what is still true of the node once the leaf is taken out.
use Rattle.std.proofs.Common.{◌≡◌, ◌≢◌, ◌==◌, ℕ, zero, suc, ◌+◌, ◌-◌, ◌≤◌, ◌<◌, Bool, true, false, cond, Some, None, List, [], ◌∷◌, length, refl, sym, ap, ◌∙◌, subst, arith}
use Rattle.std.specs.Prelude.{is_some}
use Rattle.std.specs.List.{slice_get}
use Rattle.std.proofs.lemmas.Bool.{eqb-true, eq-eqb, ne_eqb}
use Rattle.atspi_tree_model.specs.declared.step.Step.TheVariants.{Remove}
use Rattle.atspi_tree_model.specs.Edits.{is_among}
use Rattle.atspi_tree_model.specs.Forest.{Forest, nil, tree, count, has, take_out, pick, join, children_at}
use Rattle.atspi_tree_model.specs.Row.{ShapeRow}
use Rattle.atspi_tree_model.specs.RowRules.{shapes, forgetting_shape}
use Rattle.atspi_tree_model.specs.Tree.{IsRooted, Removes, is_shape, in_subtree, after}
use Rattle.atspi_tree_model.proofs.Counts.{count-join, count-parts}
use Rattle.atspi_tree_model.proofs.Found.{count-has, has-count, not_there}
use Rattle.atspi_tree_model.proofs.Kept.{removed_is_tree}
use Rattle.atspi_tree_model.proofs.Relabel.{count-relabel, has-relabel, relabel-pick}
use Rattle.atspi_tree_model.proofs.RowRules.{shapes_sound}
use Rattle.atspi_tree.specs.declared.cell.Cell.{Cell}
use Rattle.atspi_tree.specs.TreeShape.{TreeShape, IsLawful, StepApplies, after_step, numbers, children_of, parent_of}
use Rattle.atspi_tree.specs.Table.{Kept, look_in, HoldsBelow}
use Rattle.atspi_tree.proofs.Leaf.{IsLeaf, leaf_counts, leaf_picked}
use Rattle.atspi_tree.proofs.Moved.{holds-children}
use Rattle.atspi_tree.proofs.Pruned.{counts, removed_below}
use Rattle.atspi_tree.proofs.Seated.{depth_of, has_parent, own_subtree}
use Rattle.atspi_tree.proofs.Trees.{Holding, knows, shows}

-- no node is deeper than there are nodes
pub depth_small : (m : ℕ) (f : Forest ShapeRow) → depth_of m f ≤ count (λ row. true) f
depth_small m nil = omega arith
depth_small m (tree a c r) = at (a.node == m) (has (is_shape m) c) (depth_small m c) (depth_small m r)
  where
    at : (b d : Bool) → depth_of m c ≤ count (λ row. true) c → depth_of m r ≤ count (λ row. true) r
        → cond b 0 (cond d (suc (depth_of m c)) (depth_of m r)) ≤ 1 + (count (λ row. true) c + count (λ row. true) r)
    at true d x y = omega arith
    at false true x y = omega arith
    at false false x y = omega arith

-- what stands last in a list is in it; where nothing does, the list is empty
pub last_among : (xs : List ℕ) (x : ℕ) → slice_get xs (length xs - 1) ≡ Some x → is_among x xs ≡ true
last_among xs x e = got xs (length xs - 1) e
  where
    got : (ys : List ℕ) (i : ℕ) → slice_get ys i ≡ Some x → is_among x ys ≡ true
    got [] i z = cc
    got (y ∷ ys) zero z = let same : y ≡ x = cc in rw (eq-eqb y x same) refl
    got (y ∷ ys) (suc i) z = at (y == x) (got ys i z)
      where
        at : (b : Bool) → is_among x ys ≡ true → cond b true (is_among x ys) ≡ true
        at true k = refl
        at false k = k

pub no_last : (xs : List ℕ) → slice_get xs (length xs - 1) ≡ None → xs ≡ []
no_last [] e = refl
no_last (x ∷ xs) e =
    let l : length (x ∷ xs) - 1 ≡ length xs = omega arith in
    absurd (past (x ∷ xs) (length xs) (omega arith) (subst (λ i. slice_get (x ∷ xs) i ≡ None) l e))
  where
    past : (ys : List ℕ) (i : ℕ) → i < length ys → slice_get ys i ≡ None → ⊥
    past [] i l z = omega arith
    past (y ∷ ys) zero l z = cc
    past (y ∷ ys) (suc i) l z = past ys i (omega arith) z

-- a child of a node is there, and the node is its parent
pub record ChildOf (t : TreeShape) (p c : ℕ) : Type 0 where
  pub there : has (is_shape c) t.rows ≡ true
  pub parent : parent_of c t ≡ Some (Some p)

pub child_of : (es : List (ℕ × Cell)) (k p c : ℕ) (t : TreeShape) → Holding es k t → is_among c (children_of p t) ≡ true → ChildOf t p c
child_of es k p c t h among =
    let x = top_row (children_at (is_shape p) t.rows) (holds-children (look_in es) p None t.rows h.held.nodes) among in
    let there : has (is_shape c) t.rows ≡ true = sym (knows es t.rows c h.held) ∙ ap is_some x.1 in
    record { there = there; parent = (shows es k c t h there x.0 x.1).parent ∙ ap Some x.2 }
  where
    top_row : (g : Forest ShapeRow) → HoldsBelow (look_in es) (Some p) g → is_among c (numbers g) ≡ true → (x : Kept) × (look_in es c ≡ Some x) × (x.parent ≡ Some p)
    top_row nil w e = absurd cc
    top_row (tree a b r) w e = at (a.node == c) refl e (top_row r w.2)
      where
        at : (d : Bool) → (a.node == c) ≡ d → cond d true (is_among c (numbers r)) ≡ true
            → (is_among c (numbers r) ≡ true → (x : Kept) × (look_in es c ≡ Some x) × (x.parent ≡ Some p)) → (x : Kept) × (look_in es c ≡ Some x) × (x.parent ≡ Some p)
        at true y z ir = (
          record { row = a; children = numbers b; parent = Some p },
          subst (λ m. look_in es m ≡ Some (record { row = a; children = numbers b; parent = Some p })) (eqb-true a.node c y) w.0,
          refl,
        )
        at false y z ir = ir z

-- so is the last of its children
pub last_child : (es : List (ℕ × Cell)) (k p c : ℕ) (t : TreeShape) → Holding es k t → (xs : List ℕ) → xs ≡ children_of p t → slice_get xs (length xs - 1) ≡ Some c → ChildOf t p c
last_child es k p c t h xs are e = child_of es k p c t h (subst (λ ys. is_among c ys ≡ true) are (last_among xs c e))

-- what is in a subtree is there
pub inside_there : (f : Forest ShapeRow) (n m : ℕ) → in_subtree shapes n f m ≡ true → has (is_shape m) f ≡ true
inside_there f n m e =
    let a = count-has (is_shape m) (pick (is_shape n) f) e in
    let b = count-parts (is_shape m) (is_shape n) f in
    has-count (is_shape m) f (omega arith)

-- a child is in each subtree that its parent is in
pub child_inside : (t : TreeShape) (p c : ℕ) → IsLawful t → ChildOf t p c → (top : ℕ) → in_subtree shapes top t.rows p ≡ true → in_subtree shapes top t.rows c ≡ true
child_inside t p c lawful x top e = at (c == top) refl
  where
    at : (b : Bool) → (c == top) ≡ b → in_subtree shapes top t.rows c ≡ true
    at true y = subst (λ n. in_subtree shapes n t.rows c ≡ true) (eqb-true c top y) (own_subtree t c x.there)
    at false y = (has_parent t c p lawful x.parent).inside top y ∙ e

-- and it is deeper
pub child_deeper : (t : TreeShape) (p c : ℕ) → IsLawful t → ChildOf t p c → count (λ row. true) t.rows - depth_of c t.rows < count (λ row. true) t.rows - depth_of p t.rows
child_deeper t p c lawful x =
    let a = (has_parent t c p lawful x.parent).higher in
    let b = depth_small c t.rows in
    omega arith

-- the root is in no subtree but its own
root_outside : (f : Forest ShapeRow) (n : ℕ) → IsRooted shapes f → count (is_shape 0) f ≤ 1 → n ≢ 0 → in_subtree shapes n f 0 ≡ false
root_outside f n (row, children, z, e) once ne =
    not_there (is_shape 0) (pick (is_shape n) f) (at (row.node == n) refl (row.node == 0) (eq-eqb row.node 0 z) (subst (λ g. count (is_shape 0) g ≤ 1) e once) (ap (λ g. count (is_shape 0) (pick (is_shape n) g)) e))
  where
    at : (b : Bool) → (row.node == n) ≡ b → (d : Bool) → d ≡ true → cond (row.node == 0) 1 0 + (count (is_shape 0) children + 0) ≤ 1
        → count (is_shape 0) (pick (is_shape n) f) ≡ count (is_shape 0) (cond b (tree row children nil) (join (pick (is_shape n) children) nil)) → count (is_shape 0) (pick (is_shape n) f) ≡ 0
    at true y d k l c = absurd (ne (sym (eqb-true row.node n y) ∙ z))
    at false y d k l c =
        let one : cond {A = ℕ} (row.node == 0) 1 0 ≡ 1 = ap (λ b. cond {A = ℕ} b 1 0) (eq-eqb row.node 0 z) in
        let a = count-join (is_shape 0) (pick (is_shape n) children) nil in
        let b = count-parts (is_shape 0) (is_shape n) children in
        omega arith

-- a leaf below a node that is removed
pub record Removing (start t : TreeShape) (n leaf : ℕ) : Type 0 where
  pub lawful : IsLawful t
  pub removes : StepApplies t (Remove n)
  pub inside : in_subtree shapes n t.rows leaf ≡ true
  pub is_leaf : children_of leaf t ≡ []
  pub same : after_step t (Remove n) ≡ after_step start (Remove n)

-- it can be removed first
pub leaf_removes : (start t : TreeShape) (n leaf : ℕ) → Removing start t n leaf → Removes shapes t.rows leaf
leaf_removes start t n leaf x = record {
  not_root = λ z. (let a = root_outside t.rows n x.lawful.rooted (x.lawful.once 0) x.removes.not_root in
      let b = subst (λ m. in_subtree shapes n t.rows m ≡ true) z x.inside in cc);
  there = inside_there t.rows n leaf x.inside;
}

module _ (start t : TreeShape) (n leaf : ℕ) (x : Removing start t n leaf) (ne : (leaf == n) ≡ false) where
  one : IsLeaf t.rows leaf
  one = leaf_picked t leaf x.lawful (leaf_removes start t n leaf x).there x.is_leaf

  -- all of the leaf is in the subtree
  all_inside : count (is_shape leaf) (pick (is_shape n) t.rows) ≡ count (is_shape leaf) t.rows
  all_inside =
      let a = count-has (is_shape leaf) (pick (is_shape n) t.rows) x.inside in
      let b = count-parts (is_shape leaf) (is_shape n) t.rows in
      let c = x.lawful.once leaf in
      omega arith

  abbrev pub next : TreeShape
  next = after_step t (Remove leaf)

  pub next_lawful : IsLawful next
  next_lawful = removed_is_tree shapes shapes_sound t.rows t.added leaf x.lawful (leaf_removes start t n leaf x)

  none_of : (j : ℕ) → (leaf == j) ≡ false → count (is_shape j) (pick (is_shape leaf) t.rows) ≡ 0
  none_of j e = leaf_counts t.rows leaf one j ∙ ap (λ b. cond {A = ℕ} b 1 0 + 0) e

  pub next_removes : StepApplies next (Remove n)
  next_removes = record {
    not_root = x.removes.not_root;
    there = has-count (is_shape n) (after shapes t.rows (Remove leaf))
        (let a = count-relabel (forgetting_shape (in_subtree shapes leaf t.rows)) (is_shape n) (is_shape n) (λ row. refl) (take_out (is_shape leaf) t.rows) in
        let b = count-parts (is_shape n) (is_shape leaf) t.rows in
        let c = none_of n ne in
        let d = count-has (is_shape n) t.rows x.removes.there in
        omega arith);
  }

  pub next_same : after_step next (Remove n) ≡ after_step start (Remove n)
  next_same = ap (λ (f : Forest ShapeRow). record { rows = f; added = t.added }) (removed_below t.rows n leaf ne all_inside) ∙ x.same

  pub fewer : count (λ row. true) next.rows < count (λ row. true) t.rows
  fewer =
      let a = count-relabel (forgetting_shape (in_subtree shapes leaf t.rows)) (λ row. true) (λ row. true) (λ row. refl) (take_out (is_shape leaf) t.rows) in
      let b = count-parts (λ row. true) (is_shape leaf) t.rows in
      let c : count (λ row. true) (pick (is_shape leaf) t.rows) ≡ 1 = ap (count (λ row. true)) one.is in
      omega arith

  -- the parent of the leaf is still in the subtree
  pub parent_inside : (p : ℕ) → parent_of leaf t ≡ Some (Some p) → in_subtree shapes n next.rows p ≡ true
  parent_inside p up =
      let y = has_parent t leaf p x.lawful up in
      let was : in_subtree shapes n t.rows p ≡ true = sym (y.inside n ne) ∙ x.inside in
      ap (λ g. has (is_shape p) g) (relabel-pick (forgetting_shape (in_subtree shapes leaf t.rows)) (is_shape n) (is_shape n) (λ row. refl) (take_out (is_shape leaf) t.rows))
      ∙ has-relabel (forgetting_shape (in_subtree shapes leaf t.rows)) (is_shape p) (is_shape p) (λ row. refl) (pick (is_shape n) (take_out (is_shape leaf) t.rows))
      ∙ has-count (is_shape p) (pick (is_shape n) (take_out (is_shape leaf) t.rows))
      (let a = counts n leaf ne p t.rows all_inside in
      let b = none_of p (ne_eqb leaf p (λ s. let l = y.higher in let z : depth_of p t.rows ≡ depth_of leaf t.rows = ap (λ m. depth_of m t.rows) (sym s) in omega arith)) in
      let c = count-has (is_shape p) (pick (is_shape n) t.rows) was in
      omega arith)

-- at first, and after each leaf
pub removing_first : (t : TreeShape) (n leaf : ℕ) → IsLawful t → StepApplies t (Remove n) → ((top : ℕ) → in_subtree shapes top t.rows n ≡ true → in_subtree shapes top t.rows leaf ≡ true) → children_of leaf t ≡ []
    → Removing t t n leaf
removing_first t n leaf lawful removes inside is_leaf =
    record { lawful = lawful; removes = removes; inside = inside n (own_subtree t n removes.there); is_leaf = is_leaf; same = refl }

pub removing_next : (start t t' : TreeShape) (n leaf p leaf' : ℕ) → Removing start t n leaf → (leaf == n) ≡ false → parent_of leaf t ≡ Some (Some p) → t' ≡ after_step t (Remove leaf)
    → ((top : ℕ) → in_subtree shapes top t'.rows p ≡ true → in_subtree shapes top t'.rows leaf' ≡ true) → children_of leaf' t' ≡ [] → Removing start t' n leaf'
removing_next start t t' n leaf p leaf' x ne up is inside is_leaf = record {
  lawful = subst IsLawful (sym is) (next_lawful start t n leaf x ne);
  removes = subst (λ s. StepApplies s (Remove n)) (sym is) (next_removes start t n leaf x ne);
  inside = inside n (subst (λ (s : TreeShape). in_subtree shapes n s.rows p ≡ true) (sym is) (parent_inside start t n leaf x ne p up));
  is_leaf = is_leaf;
  same = ap (λ s. after_step s (Remove n)) is ∙ next_same start t n leaf x ne;
}
