-- The table of a tree: what it says of the tree, and how it holds the tree after each write.
use Rattle.std.proofs.Common.{◌≡◌, ℕ, zero, suc, ◌+◌, ◌<◌, ◌≤◌, ◌==◌, Bool, true, false, cond, Option, Some, None, List, [], ◌∷◌, length, refl, sym, ap, ◌∙◌, subst, arith}
use Rattle.std.specs.Prelude.{is_some, IsSome, if◌then◌else◌, vec_len}
use Rattle.std.specs.List.{AllZip}
use Rattle.std.specs.Option.{option_map}
use Rattle.std.specs.Ordering.{nat_cmp, is_eq}
use Rattle.std.specs.Map.{lookup}
use Rattle.std.proofs.lemmas.Bool.Decides.{nat_tests}
use Rattle.std.proofs.lemmas.Bool.{eq-eqb, ne_eqb}
use Rattle.atspi_tree_model.specs.declared.contents.Kinds.{Kinds}
use Rattle.atspi_tree_model.specs.declared.step.Seed.{Seed}
use Rattle.atspi_tree_model.specs.declared.step.Step.{Step}
use Rattle.atspi_tree_model.specs.declared.step.Step.TheVariants.{Add, SetState}
use Rattle.atspi_tree_model.specs.Forest.{Forest, nil, tree, count, has, width, children_at, relabel, change, grow}
use Rattle.atspi_tree_model.specs.Row.{ShapeRow, Holds}
use Rattle.atspi_tree_model.specs.RowRules.{shapes, first_shape, first_kinds}
use Rattle.atspi_tree_model.specs.Tree.{IsTree, is_shape, node_of, after, Changes, root_seed, Adds as AddApplies}
use Rattle.atspi_tree_model.proofs.Counts.{count-put_in}
use Rattle.atspi_tree_model.proofs.Relabel.{count-relabel}
use Rattle.atspi_tree_model.proofs.Found.{count-has, has-count, find-has, find-passes}
use Rattle.atspi_tree_model.proofs.Lookup.{each-find}
use Rattle.atspi_tree.specs.declared.cell.Cell.{Cell}
use Rattle.atspi_tree.specs.Namers.{Namers, Covers}
use Rattle.atspi_tree.specs.TreeShape.{TreeShape, numbers, row_of, parent_of, children_of, root_alone}
use Rattle.atspi_tree.specs.Table.{Kept, kept, look_in, IsHeld, HoldsTree, rows_in, row_by, children_by, new_row, with_child, with_row, SameCell, IsNewCell, ChangesAt}
use Rattle.atspi_tree.proofs.Keys.{is_same}
use Rattle.atspi_tree.proofs.Held.{grown, found, holds-add, holds-change, holds-same}

-- the forest that is computed from the table is the one that it holds
pub rows_are : (es : List (ℕ × Cell)) (k : ℕ) (f : Forest ShapeRow) → IsHeld es f → IsTree shapes f k → rows_in es ≡ f
rows_are es k f h t =
    let g = grown (look_in es) (length es) None f (let s = h.size in omega arith) h.nodes in
    subst (λ l. relabel (row_by (look_in es)) (grow (length es) (children_by (look_in es)) l) ≡ f) (top f t.rooted) g
  where
    top : (f : Forest ShapeRow) → (row : ShapeRow) × (children : Forest ShapeRow) × (row.node ≡ 0) × (f ≡ tree row children nil) → numbers f ≡ 0 ∷ []
    top f (row, children, z, e) = ap numbers e ∙ ap (λ n. n ∷ []) z

-- a table holds the tree that contracts see
pub record Holding (es : List (ℕ × Cell)) (k : ℕ) (t : TreeShape) : Type 0 where
  pub held : IsHeld es t.rows
  pub lawful : IsTree shapes t.rows t.added
  pub added : k ≡ t.added

pub holding : (es : List (ℕ × Cell)) (k : ℕ) (t : TreeShape) → {namers : Namers} → HoldsTree es namers k → record { rows = rows_in es; added = k } ≡ t → Holding es k t
holding es k t h e =
    let same_rows : h.rows ≡ t.rows = sym (rows_are es k h.rows h.held h.lawful) ∙ ap (λ (t : TreeShape). t.rows) e in
    let same_added : k ≡ t.added = ap (λ (t : TreeShape). t.added) e in
    record {
      held = subst (IsHeld es) same_rows h.held;
      lawful = subst (λ n. IsTree shapes t.rows n) same_added (subst (λ f. IsTree shapes f k) same_rows h.lawful);
      added = same_added;
    }

-- no node that names another is left out of the tree that contracts see
pub covering : (es : List (ℕ × Cell)) (k : ℕ) (t : TreeShape) → {namers : Namers} → HoldsTree es namers k → record { rows = rows_in es; added = k } ≡ t → Covers namers t.rows
covering es k t {namers} h e =
    subst (Covers namers) (sym (rows_are es k h.rows h.held h.lawful) ∙ ap (λ (t : TreeShape). t.rows) e) h.covered

-- what contracts see of a table that holds a tree
abbrev pub shape : Forest ShapeRow → ℕ → TreeShape
shape f k = record { rows = f; added = k }

pub seen : (es : List (ℕ × Cell)) (k : ℕ) {namers : Namers} (h : HoldsTree es namers k) → shape (rows_in es) k ≡ shape h.rows k
seen es k h = ap (λ (f : Forest ShapeRow). shape f k) (rows_are es k h.rows h.held h.lawful)

-- a node that is not there
pub absent : (f : Forest ShapeRow) (n : ℕ) → has (is_shape n) f ≡ false → count (is_shape n) f ≡ 0
absent f n e = at (count (is_shape n) f) refl
  where
    at : (k : ℕ) → count (is_shape n) f ≡ k → count (is_shape n) f ≡ 0
    at zero z = z
    at (suc k) z = let t = has-count (is_shape n) f (omega arith) in cc

pub knows : (es : List (ℕ × Cell)) (f : Forest ShapeRow) (n : ℕ) → IsHeld es f → is_some (look_in es n) ≡ has (is_shape n) f
knows es f n h = at (has (is_shape n) f) refl
  where
    at : (b : Bool) → has (is_shape n) f ≡ b → is_some (look_in es n) ≡ has (is_shape n) f
    at true e = let k = found (look_in es) n None 0 f h.nodes e in rw (k.is_kept, e) refl
    at false e = let z = h.only n (absent f n e) in rw (z, e) refl

pub is_some-map : {X Y : Type 0} (g : X → Y) (o : Option X) → is_some o ≡ is_some (option_map g o)
is_some-map g None = refl
is_some-map g (Some x) = refl

-- what is in a tree of a node
pub record Shows (n : ℕ) (t : TreeShape) (k : Kept) : Type 0 where
  pub row : row_of n t ≡ Some k.row
  pub children : k.children ≡ children_of n t
  pub parent : parent_of n t ≡ Some k.parent

pub shows : (es : List (ℕ × Cell)) (k n : ℕ) (t : TreeShape) → Holding es k t → has (is_shape n) t.rows ≡ true → (x : Kept) → look_in es n ≡ Some x → Shows n t x
shows es k n t h e x l =
    let y = found (look_in es) n None 0 t.rows h.held.nodes e in
    let same : record { row = y.row; children = children_of n t; parent = y.parent } ≡ x = some_same _ _ (sym y.is_kept ∙ l) in
    subst (Shows n t) same (record { row = y.is_row; children = refl; parent = ap (option_map (λ (s : Option ℕ × ℕ). s.0)) y.is_seat })
  where
    some_same : (a b : Kept) → Some a ≡ Some b → a ≡ b
    some_same a b e = cc

-- a node that is there has a cell
pub has_cell : (es : List (ℕ × Cell)) (k n : ℕ) (t : TreeShape) → Holding es k t → has (is_shape n) t.rows ≡ true → IsSome (lookup (λ k. is_eq (nat_cmp n k)) es)
has_cell es k n t h e = at (lookup (λ k. is_eq (nat_cmp n k)) es) (knows es t.rows n h.held ∙ e)
  where
    at : (o : Option Cell) → is_some (option_map (kept n) o) ≡ true → IsSome o
    at None z = cc
    at (Some x) z = refl

-- what the cell that is read says of the node
pub read : (es : List (ℕ × Cell)) (k n : ℕ) (t : TreeShape) → Holding es k t → has (is_shape n) t.rows ≡ true → (cell : Cell) → lookup (λ k. is_eq (nat_cmp n k)) es ≡ Some cell → Shows n t (kept n cell)
read es k n t h e cell l = shows es k n t h e (kept n cell) (ap (option_map (kept n)) l)

-- look-ups that agree, in as long a table
pub same_table : (es es' : List (ℕ × Cell)) (f : Forest ShapeRow) → IsHeld es f → ((n : ℕ) → look_in es' n ≡ look_in es n) → length es' ≡ length es → IsHeld es' f
same_table es es' f h w l = record {
  nodes = holds-same (look_in es) (look_in es') None f w h.nodes;
  only = λ n z. w n ∙ h.only n z;
  size = h.size ∙ sym l;
}

pub width-numbers : (f : Forest ShapeRow) → length (numbers f) ≡ width f
width-numbers nil = refl
width-numbers (tree a c r) = ap suc (width-numbers r)

-- a number that an addition takes is new
pub is_new : (es : List (ℕ × Cell)) (k x p i : ℕ) (seed : Seed) (t : TreeShape) → Holding es k t → AddApplies shapes t.rows t.added x p i seed → count (is_shape x) t.rows ≡ 0
is_new es k x p i seed t h m = let e = m.next in h.lawful.numbered x (omega arith)

pub apart : (es : List (ℕ × Cell)) (k x p i : ℕ) (seed : Seed) (t : TreeShape) → Holding es k t → AddApplies shapes t.rows t.added x p i seed → (p == x) ≡ false
apart es k x p i seed t h m =
    ne_eqb p x (λ e. let a = count-has (is_shape p) t.rows m.parent in let z : count (is_shape p) t.rows ≡ 0 = subst (λ n. count (is_shape n) t.rows ≡ 0) (sym e) (is_new es k x p i seed t h m) in omega arith)

-- the index is one of the parent's children, or behind them
pub in_range : (es es1 : List (ℕ × Cell)) (k x p i : ℕ) (seed : Seed) (t : TreeShape) (new : Kept) → Holding es k t → AddApplies shapes t.rows t.added x p i seed
    → ChangesAt es es1 x new → Holds (λ (k : Kept). i ≤ length k.children) (look_in es1 p)
in_range es es1 k x p i seed t new h m w =
    let y = found (look_in es) p None 0 t.rows h.held.nodes m.parent in
    let e : look_in es1 p ≡ Some (record { row = y.row; children = children_of p t; parent = y.parent }) = w.others p (apart es k x p i seed t h m) ∙ y.is_kept in
    subst (Holds (λ (k : Kept). i ≤ length k.children)) (sym e) (let a = m.index in let b = width-numbers (children_at (is_shape p) t.rows) in omega arith)

-- after the two writes of an addition
pub table_add : (es es1 es2 : List (ℕ × Cell)) (k x p i : ℕ) (seed : Seed) (t : TreeShape) → Holding es k t → AddApplies shapes t.rows t.added x p i seed
    → ChangesAt es es1 x (record { row = first_shape x seed; children = []; parent = Some p }) → length es1 ≡ length es + 1
    → ((y : Kept) → look_in es1 p ≡ Some y → ChangesAt es1 es2 p (with_child i x y)) → length es2 ≡ length es1
    → IsHeld es2 (after shapes t.rows (Add x p i seed))
table_add es es1 es2 k x p i seed t h m w1 size1 w2 size2 =
    let y = found (look_in es) p None 0 t.rows h.held.nodes m.parent in
    added (record { row = y.row; children = children_of p t; parent = y.parent }) y.is_kept
  where
    none : count (is_shape x) t.rows ≡ 0
    none = is_new es k x p i seed t h m

    one : count (is_shape p) t.rows ≡ 1
    one = let a = count-has (is_shape p) t.rows m.parent in let b = h.lawful.once p in omega arith

    p_x : (p == x) ≡ false
    p_x = apart es k x p i seed t h m

    x_p : (x == p) ≡ false
    x_p = ne_eqb x p (λ e. let z = eq-eqb p x (sym e) in let y = p_x in cc)

    counts : (test : ShapeRow → Bool) → count test (after shapes t.rows (Add x p i seed)) ≡ count test t.rows + (cond (test (first_shape x seed)) 1 0 + 0)
    counts test = count-put_in test (is_shape p) (Some i) (tree (first_shape x seed) nil nil) t.rows ∙ rw one (omega arith)

    only_at : (n : ℕ) (b : Bool) → (x == n) ≡ b → ((m : ℕ) → (m == p) ≡ false → (m == x) ≡ false → look_in es2 m ≡ look_in es m) → {c : ℕ} → c ≡ count (is_shape n) t.rows + (cond b 1 0 + 0) → c ≡ 0 → look_in es2 n ≡ None
    only_at n true e o c z = absurd (omega arith)
    only_at n false e o c z =
        let zero : count (is_shape n) t.rows ≡ 0 = omega arith in
        let not_x : (n == x) ≡ false = ne_eqb n x (λ k. let y = eq-eqb x n (sym k) in cc) in
        let not_p : (n == p) ≡ false = ne_eqb n p (λ k. let y : count (is_shape n) t.rows ≡ 1 = subst (λ m. count (is_shape m) t.rows ≡ 1) (sym k) one in omega arith) in
        o n not_p not_x ∙ h.held.only n zero

    added : (y : Kept) → look_in es p ≡ Some y → IsHeld es2 (after shapes t.rows (Add x p i seed))
    added y l =
        let second = w2 y (w1.others p p_x ∙ l) in
        let others = λ (n : ℕ) (np : (n == p) ≡ false) (nx : (n == x) ≡ false). second.others n np ∙ w1.others n nx in
        record {
          nodes = holds-add (look_in es) (look_in es2) p i (first_shape x seed)
              (record { new = second.others x x_p ∙ w1.here; parent = λ z e. (w2 z (w1.others p p_x ∙ e)).here; others = others })
              None t.rows none h.held.nodes;
          only = λ n z. only_at n (x == n) refl others (counts (is_shape n)) z;
          size = counts (λ row. true) ∙ (let s = h.held.size in omega arith);
        }

-- after the second write of an addition failed and the first was taken back
pub table_back : (es es1 es2 es3 : List (ℕ × Cell)) (f : Forest ShapeRow) (x : ℕ) (new : Kept) (r : Option Cell) → IsHeld es f → look_in es x ≡ None
    → ChangesAt es es1 x new → length es1 ≡ length es + 1 → ((n : ℕ) → look_in es2 n ≡ look_in es1 n) → length es2 ≡ length es1
    → r ≡ lookup (λ k. is_eq (nat_cmp x k)) es2
    → ((n : ℕ) → lookup (λ k. is_eq (nat_cmp n k)) es3 ≡ cond (is_eq (nat_cmp x n)) None (lookup (λ k. is_eq (nat_cmp n k)) es2))
    → length es3 + (if is_some r then 1 else 0) ≡ length es2
    → IsHeld es3 f
table_back es es1 es2 es3 f x new r h none w1 size1 w2 size2 is_r gone size3 =
    same_table es es3 f h (λ n. back n (is_eq (nat_cmp x n)) refl (gone n)) (lengths r (ap is_some (ap (option_map (kept x)) is_r ∙ (w2 x ∙ w1.here))) size3)
  where
    back : (n : ℕ) (b : Bool) → is_eq (nat_cmp x n) ≡ b → lookup (λ k. is_eq (nat_cmp n k)) es3 ≡ cond b None (lookup (λ k. is_eq (nat_cmp n k)) es2) → look_in es3 n ≡ look_in es n
    back n true e g = ap (option_map (kept n)) g ∙ sym (subst (λ m. look_in es m ≡ None) (is_same x n e) none)
    back n false e g = ap (option_map (kept n)) g ∙ (w2 n ∙ w1.others n (ne_eqb n x (λ k. let z = same_is x n (sym k) in cc)))
      where
        same_is : (a b : ℕ) → a ≡ b → is_eq (nat_cmp a b) ≡ true
        same_is a b e = grind (arith, nat_tests)

    lengths : (r : Option Cell) → is_some (option_map (kept x) r) ≡ true → length es3 + (if is_some r then 1 else 0) ≡ length es2 → length es3 ≡ length es
    lengths None e l = cc
    lengths (Some c) e l = omega arith

-- after a row was written
pub table_change : (es es1 : List (ℕ × Cell)) (k n : ℕ) (h : ShapeRow → ShapeRow) (t : TreeShape) → Holding es k t → has (is_shape n) t.rows ≡ true → ((a : ShapeRow) → (h a).node ≡ a.node)
    → ((y : Kept) → look_in es n ≡ Some y → ChangesAt es es1 n (with_row h y)) → length es1 ≡ length es
    → IsHeld es1 (change (is_shape n) h t.rows)
table_change es es1 k n h t held there s w size =
    let y = found (look_in es) n None 0 t.rows held.held.nodes there in
    let others = (w (record { row = y.row; children = children_of n t; parent = y.parent }) y.is_kept).others in
    record {
      nodes = holds-change (look_in es) (look_in es1) n h s (λ z e. (w z e).here) others None t.rows held.held.nodes;
      only = λ j z. (let zero : count (is_shape j) t.rows ≡ 0 = sym (counts j) ∙ z in
          others j (ne_eqb j n (λ e. let a = count-has (is_shape n) t.rows there in let b : count (is_shape n) t.rows ≡ 0 = subst (λ m. count (is_shape m) t.rows ≡ 0) e zero in omega arith)) ∙ held.held.only j zero);
      size = all ∙ (held.held.size ∙ sym size);
    }
  where
    at : ShapeRow → ShapeRow
    at row = cond (is_shape n row) (h row) row

    node_at : (row : ShapeRow) (b : Bool) → (cond b (h row) row).node ≡ row.node
    node_at row true = s row
    node_at row false = refl

    counts : (j : ℕ) → count (is_shape j) (change (is_shape n) h t.rows) ≡ count (is_shape j) t.rows
    counts j = count-relabel at (is_shape j) (is_shape j) (λ row. ap (λ m. m == j) (node_at row (is_shape n row))) t.rows

    all : count (λ row. true) (change (is_shape n) h t.rows) ≡ count (λ row. true) t.rows
    all = count-relabel at (λ row. true) (λ row. true) (λ row. refl) t.rows

-- a table of cells that say the same
pub table_copy : (es es' : List (ℕ × Cell)) (f : Forest ShapeRow) → IsHeld es f → AllZip (λ (a b : ℕ × Cell). (b.0 ≡ a.0) × SameCell a.1 b.1) es es' → IsHeld es' f
table_copy es es' f h z = same_table es es' f h (λ n. looks es es' n z) (lengths es es' z)
  where
    looks : (es es' : List (ℕ × Cell)) (n : ℕ) → AllZip (λ (a b : ℕ × Cell). (b.0 ≡ a.0) × SameCell a.1 b.1) es es' → look_in es' n ≡ look_in es n
    looks [] [] n z = refl
    looks [] (y ∷ ys) n z = absurd z
    looks (x ∷ xs) [] n z = absurd z
    looks (x ∷ xs) (y ∷ ys) n z = rw z.0.0 (at (is_eq (nat_cmp n x.0)) (looks xs ys n z.1))
      where
        at : (b : Bool) → look_in ys n ≡ look_in xs n
            → option_map (kept n) (cond b (Some y.1) (lookup (λ k. is_eq (nat_cmp n k)) ys)) ≡ option_map (kept n) (cond b (Some x.1) (lookup (λ k. is_eq (nat_cmp n k)) xs))
        at true e = ap Some (z.0.1 n)
        at false e = e

    lengths : (es es' : List (ℕ × Cell)) → AllZip (λ (a b : ℕ × Cell). (b.0 ≡ a.0) × SameCell a.1 b.1) es es' → length es' ≡ length es
    lengths [] [] z = refl
    lengths [] (y ∷ ys) z = absurd z
    lengths (x ∷ xs) [] z = absurd z
    lengths (x ∷ xs) (y ∷ ys) z = ap suc (lengths xs ys z.1)

-- a table of the root alone
pub table_new : (es es1 : List (ℕ × Cell)) (name : List ℕ) → es ≡ [] → ChangesAt es es1 0 (record { row = first_shape 0 (root_seed name); children = []; parent = None }) → length es1 ≡ length es + 1
    → IsHeld es1 (root_alone name).rows
table_new es es1 name none w size = record {
  nodes = (w.here, tt, tt);
  only = λ n z. only_at n (0 == n) refl z;
  size = sym (size ∙ (let l : length es ≡ 0 = ap length none in omega arith));
}
  where
    only_at : (n : ℕ) (b : Bool) → (0 == n) ≡ b → cond b 1 0 + 0 ≡ 0 → look_in es1 n ≡ None
    only_at n true e c = absurd (omega arith)
    only_at n false e c = w.others n (ne_eqb n 0 (λ k. let y = eq-eqb 0 n (sym k) in cc)) ∙ ap (λ (l : List (ℕ × Cell)). look_in l n) none

-- the value of a table that holds a tree
pub view_of : (es : List (ℕ × Cell)) (k : ℕ) {t : TreeShape} {namers : Namers} (h : HoldsTree es namers k) → shape (rows_in es) k ≡ t → shape h.rows k ≡ t
view_of es k h e = sym (seen es k h) ∙ e

-- the cell that an addition makes
pub new_cell : (cell : Cell) (x p : ℕ) (name : List ℕ) (kinds : Kinds) (seed : Seed) → IsNewCell cell name seed.role kinds (Some p) → name ≡ seed.name → kinds ≡ first_kinds seed
    → kept x cell ≡ record { row = first_shape x seed; children = []; parent = Some p }
new_cell cell x p name kinds seed is_new same_name same_kinds =
    is_new x
    ∙ ap (λ n. with_row (new_row x n seed.role kinds)) same_name
    ∙ ap (λ k. with_row (new_row x seed.name seed.role k)) same_kinds
  where
    with_row : ShapeRow → Kept
    with_row row = record { row = row; children = []; parent = Some p }

-- how many children the cell that is read lists
pub child_count : (es : List (ℕ × Cell)) (k n : ℕ) (t : TreeShape) → Holding es k t → has (is_shape n) t.rows ≡ true → (cell : Cell) → lookup (λ k. is_eq (nat_cmp n k)) es ≡ Some cell
    → vec_len cell.children ≡ width (children_at (is_shape n) t.rows)
child_count es k n t h e cell l =
    let a : length cell.children.items ≡ width (children_at (is_shape n) t.rows) = ap (λ (ks : List ℕ). length ks) (read es k n t h e cell l).children ∙ width-numbers (children_at (is_shape n) t.rows) in
    let b = cell.children.ok.0 in
    omega arith

-- whether a node is there, by what is found under its number
pub there_is : (es : List (ℕ × Cell)) (k n : ℕ) (t : TreeShape) → Holding es k t → (o : Option Cell) → o ≡ lookup (λ k. is_eq (nat_cmp n k)) es → has (is_shape n) t.rows ≡ is_some o
there_is es k n t h o e = sym (knows es t.rows n h.held) ∙ sym (is_some-map (kept n) _) ∙ ap is_some (sym e)

-- a step about its own node finds it there
pub step_there : (step : Step) (t : TreeShape) → Changes shapes t.rows step → has (is_shape (node_of step)) t.rows ≡ true
step_there step t m = has-count (is_shape (node_of step)) t.rows (find-passes (is_shape (node_of step)) t.rows m.row m.there).1

-- a state of a node that is there can be set
pub state_applies : (n s : ℕ) (on : Bool) (t : TreeShape) → IsTree shapes t.rows t.added → has (is_shape n) t.rows ≡ true → s < 44 → Changes shapes t.rows (SetState n s on)
state_applies n s on t lawful there small =
    let row = find-has (is_shape n) t.rows (count-has (is_shape n) t.rows there) in
    let limits = each-find (λ (row : ShapeRow). shapes.IsLawful row) (is_shape n) t.rows row.0 lawful.lawful row.1 in
    record {
      row = row.0;
      there = row.1;
      allowed = small;
      lawful = record { name = limits.name; description = limits.description; editable = limits.editable };
      targets = tt;
    }

-- a step that changes no shape
pub text_step : (t : TreeShape) (n : ℕ) → record { rows = change (is_shape n) (λ row. row) t.rows; added = t.added } ≡ t
text_step t n = ap (λ (f : Forest ShapeRow). shape f t.added) (same t.rows)
  where
    same : (f : Forest ShapeRow) → change (is_shape n) (λ row. row) f ≡ f
    same nil = refl
    same (tree a c r) = rw (same c, same r) (ap (λ x. tree x c r) (at (a.node == n)))
      where
        at : (b : Bool) → cond b a a ≡ a
        at true = refl
        at false = refl
