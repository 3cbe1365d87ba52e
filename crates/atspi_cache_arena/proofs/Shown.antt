-- The forest that an arena holds, and what is found in it by a path.
use Rattle.std.proofs.Common.{◌≡◌, ℕ, zero, suc, ◌+◌, ◌≤◌, ◌==◌, Bool, true, false, cond, Option, Some, None, List, length, refl, sym, ap, ◌∙◌, subst, arith}
use Rattle.std.specs.Option.{option_map}
use Rattle.std.specs.HashMap.{get_by_text}
use Rattle.std.proofs.lemmas.Bool.{eqb-true, eq-eqb}
use Rattle.slab.specs.Slab.{Slab}
use Rattle.atspi_tree_model.specs.declared.view.Row.{Row}
use Rattle.atspi_tree_model.specs.Forest.{Forest, nil, tree, count, relabel, grow, find, first_of}
use Rattle.atspi_tree_model.specs.News.{is_path}
use Rattle.atspi_tree_model.proofs.Found.{find-passes}
use Rattle.atspi_tree_model.proofs.Relabel.{count-relabel}
use Rattle.atspi_tree_model.specs.Laws.{EachPathOnce}
use Rattle.atspi_cache_arena.specs.Keys.{Node, Kept, keys, HoldsBelow}
use Rattle.atspi_cache_arena.specs.Table.{look_in}
use Rattle.atspi_cache_arena.specs.Arena.{is_at, is_row, IsIndexed, IsArena, row_or, children_or, rows_of, row_under}
use Rattle.atspi_cache_arena.specs.declared.cell.Cell.{Cell}
use Rattle.atspi_cache_arena.specs.declared.paths.Paths.{Paths}
use Rattle.atspi_cache_arena.proofs.Walk.{slots_are_enough}

-- the rows of a forest of nodes
abbrev pub rows : Forest (Node Row) → Forest Row
rows f = relabel (λ n. n.row) f

-- a table that holds a forest grows it
grown : (look : ℕ → Option (Kept Row)) (n : ℕ) (up : Option ℕ) (f : Forest (Node Row)) → count (λ a. true) f ≤ n → HoldsBelow look up f
    → relabel (λ k. row_or (look k)) (grow n (λ k. children_or (look k)) (keys f)) ≡ rows f
grown look zero up nil l h = refl
grown look (suc n) up nil l h = refl
grown look zero up (tree a c r) l h = absurd (omega arith)
grown look (suc n) up (tree a c r) l h =
    rw (ap row_or h.0, ap children_or h.0, grown look n (Some a.key) c (omega arith) h.1) (ap (tree a.row (rows c)) (grown look (suc n) up r (omega arith) h.2))

-- the row of a path and a key
pub record Entry (look : ℕ → Option (Kept Row)) (f : Forest (Node Row)) (path : List ℕ) (k : ℕ) : Type 0 where
  pub node : Node Row
  pub found : find (is_at path) f ≡ Some node
  pub key : node.key ≡ k
  pub kept : (x : Kept Row) × (look k ≡ Some x) × (x.row ≡ node.row)

module _ (look : ℕ → Option (Kept Row)) (path : List ℕ) (k : ℕ) (a : Node Row) (c r : Forest (Node Row)) where
  entry_below : (d : Bool) → is_at path a ≡ d → cond d 1 0 + (count (is_at path) c + count (is_at path) r) ≤ 1 → Entry look c path k → Entry look (tree a c r) path k
  entry_below true ed l e = let z = (find-passes (is_at path) c e.node e.found).1 in absurd (omega arith)
  entry_below false ed l e = record {
    node = e.node;
    found = rw (ed, e.found) refl;
    key = e.key;
    kept = e.kept;
  }

  entry_beside : (d : Bool) → is_at path a ≡ d → (o : Option (Node Row)) → find (is_at path) c ≡ o
      → cond d 1 0 + (count (is_at path) c + count (is_at path) r) ≤ 1 → Entry look r path k → Entry look (tree a c r) path k
  entry_beside true ed o eo l e = let z = (find-passes (is_at path) r e.node e.found).1 in absurd (omega arith)
  entry_beside false ed (Some x) eo l e = let z = (find-passes (is_at path) r e.node e.found).1 in let y = (find-passes (is_at path) c x eo).1 in absurd (omega arith)
  entry_beside false ed None eo l e = record {
    node = e.node;
    found = rw (ed, eo) e.found;
    key = e.key;
    kept = e.kept;
  }

pub entry : (look : ℕ → Option (Kept Row)) (up : Option ℕ) (f : Forest (Node Row)) (path : List ℕ) (k : ℕ) → HoldsBelow look up f
    → count (is_at path) f ≤ 1 → 1 ≤ count (is_row path k) f → Entry look f path k
entry look up nil path k h l m = absurd (omega arith)
entry look up (tree a c r) path k h l m =
    at (a.key == k) (is_at path a) refl refl (count (is_row path k) c) refl l m (λ m. entry look (Some a.key) c path k h.1 (omega arith) m) (λ m. entry look up r path k h.2 (omega arith) m)
  where
    at : (b d : Bool) → (a.key == k) ≡ b → is_at path a ≡ d → (n : ℕ) → count (is_row path k) c ≡ n
        → cond d 1 0 + (count (is_at path) c + count (is_at path) r) ≤ 1
        → 1 ≤ cond (cond b d false) 1 0 + (count (is_row path k) c + count (is_row path k) r)
        → (1 ≤ count (is_row path k) c → Entry look c path k) → (1 ≤ count (is_row path k) r → Entry look r path k) → Entry look (tree a c r) path k
    at true true eb ed n en l m hc hr = record {
      node = a;
      found = rw ed refl;
      key = eqb-true a.key k eb;
      kept = (record { row = a.row; children = keys c; parent = up }, subst (λ n. look n ≡ Some (record { row = a.row; children = keys c; parent = up })) (eqb-true a.key k eb) h.0, refl);
    }
    at b d eb ed (suc n) en l m hc hr = entry_below look path k a c r d ed l (hc (omega arith))
    at true false eb ed zero en l m hc hr = entry_beside look path k a c r false ed (find (is_at path) c) refl l (hr (omega arith))
    at false d eb ed zero en l m hc hr = entry_beside look path k a c r d ed (find (is_at path) c) refl l (hr (omega arith))

-- what is found by a path in the rows
pub find-rows : (path : List ℕ) (f : Forest (Node Row)) → find (is_path path) (rows f) ≡ option_map (λ n. n.row) (find (is_at path) f)
find-rows path nil = refl
find-rows path (tree a c r) = rw (find-rows path c, find-rows path r) (at (is_at path a) (find (is_at path) c) (find (is_at path) r))
  where
    at : (b : Bool) (x y : Option (Node Row)) → cond b (Some a.row) (first_of (option_map (λ n. n.row) x) (option_map (λ n. n.row) y)) ≡ option_map (λ n. n.row) (cond b (Some a) (first_of x y))
    at true x y = refl
    at false None y = refl
    at false (Some x) y = refl

found_row : (path : List ℕ) (f : Forest (Node Row)) (n : Node Row) → find (is_at path) f ≡ Some n → 1 ≤ count (is_row path n.key) f
found_row path nil n e = cc
found_row path (tree a c r) n e = at (is_at path a) refl (find (is_at path) c) refl (λ m. found_row path c n m) (λ m. found_row path r n m) e
  where
    at : (b : Bool) → is_at path a ≡ b → (o : Option (Node Row)) → find (is_at path) c ≡ o → (o ≡ Some n → 1 ≤ count (is_row path n.key) c) → (find (is_at path) r ≡ Some n → 1 ≤ count (is_row path n.key) r)
        → cond b (Some a) (first_of o (find (is_at path) r)) ≡ Some n → 1 ≤ count (is_row path n.key) (tree a c r)
    at true eb o eo hc hr e =
        let same : a ≡ n = cc in
        let one : cond {A = ℕ} (is_row path n.key a) 1 0 ≡ 1 = subst (λ m. cond {A = ℕ} (is_row path m.key a) 1 0 ≡ 1) same (rw (eq-eqb a.key a.key refl, eb) refl) in
        omega arith
    at false eb None eo hc hr e = let k = hr e in omega arith
    at false eb (Some x) eo hc hr e = let k = hc e in omega arith

-- what an index says of a path is what the forest has
pub data Known (s : Slab Cell) (f : Forest (Node Row)) (path : List ℕ) : Option ℕ → Type 0 where
  Is : (k : ℕ) → Entry (look_in s) f path k → Known s f path (Some k)
  Lacks : find (is_at path) f ≡ None → Known s f path None

known : (s : Slab Cell) (paths : Paths) (f : Forest (Node Row)) (path : List ℕ) → IsIndexed paths f → HoldsBelow (look_in s) None f
    → (o : Option ℕ) → get_by_text paths.index path ≡ o → Known s f path o
known s paths f path a h (Some k) e = Is k (entry (look_in s) None f path k h (a.once path) ((a.index path k).0 e))
known s paths f path a h None e = at (find (is_at path) f) refl
  where
    at : (o : Option (Node Row)) → find (is_at path) f ≡ o → Known s f path None
    at None z = Lacks z
    at (Some n) z = let k = (a.index path n.key).1 (found_row path f n z) in cc

-- the rows of an arena are those of its forest
pub seen : (s : Slab Cell) (paths : Paths) (c : IsArena s paths) → rows_of s paths ≡ rows c.forest
seen s paths c =
    ap (λ l. relabel (λ k. row_or (look_in s k)) (grow (length s.slots) (λ k. children_or (look_in s k)) l)) (sym c.indexed.root)
    ∙ grown (look_in s) (length s.slots) None c.forest (slots_are_enough s c.forest c.held) c.held.nodes

-- the row under the key that an index has for a path is the row that is found by it
pub find_row : (s : Slab Cell) (paths : Paths) (v : Forest Row) (path : List ℕ) → IsArena s paths → rows_of s paths ≡ v
    → (o : Option ℕ) → get_by_text paths.index path ≡ o → find (is_path path) v ≡ row_under s o
find_row s paths v path c view o eo =
    ap (find (is_path path)) (sym view ∙ seen s paths c)
    ∙ (find-rows path c.forest ∙ by_key c.forest o (known s paths c.forest path c.indexed c.held.nodes o eo))
  where
    by_key : (g : Forest (Node Row)) (o : Option ℕ) → Known s g path o → option_map (λ n. n.row) (find (is_at path) g) ≡ row_under s o
    by_key g _ (Is k e) = rw (e.found, e.kept.1) (ap Some (sym e.kept.2))
    by_key g _ (Lacks e) = rw e refl

-- each path stands once
pub paths_once : (s : Slab Cell) (paths : Paths) (v : Forest Row) → IsArena s paths → rows_of s paths ≡ v → EachPathOnce v
paths_once s paths v c view path =
    let a = count-relabel (λ (n : Node Row). n.row) (is_path path) (is_at path) (λ a. refl) c.forest in
    let b = c.indexed.once path in
    subst (λ g. count (is_path path) g ≤ 1) (sym (seen s paths c) ∙ view) (omega arith)

-- an arena whose rows are these
pub record Becomes (s : Slab Cell) (paths : Paths) (v : Forest Row) : Type 0 where
  pub arena : IsArena s paths
  pub rows_are : rows_of s paths ≡ v

pub becomes : (s : Slab Cell) (paths : Paths) (f : Forest (Node Row)) (v : Forest Row) (c : IsArena s paths) → c.forest ≡ f → rows f ≡ v → Becomes s paths v
becomes s paths f v c e r = record { arena = c; rows_are = seen s paths c ∙ (ap rows e ∙ r) }
