-- An arena after one row is changed under its key.
use Rattle.std.proofs.Common.{◌≡◌, ◌≢◌, ℕ, ◌+◌, ◌==◌, Bool, true, false, cond, Option, Some, None, List, ◌∷◌, refl, sym, ap, ◌∙◌, subst, arith}
use Rattle.std.specs.Prelude.{bytes_eq}
use Rattle.std.specs.HashMap.{get_by_text}
use Rattle.std.proofs.lemmas.Bool.{eqb-true, eq-eqb}
use Rattle.slab.specs.Slab.{Slab}
use Rattle.atspi_tree_model.specs.declared.view.Row.{Row}
use Rattle.atspi_tree_model.specs.Forest.{Forest, nil, tree, count, relabel, change}
use Rattle.atspi_tree_model.specs.News.{is_path}
use Rattle.atspi_tree_model.proofs.Relabel.{count-relabel, Same}
use Rattle.atspi_cache_arena.specs.Keys.{Node, Kept, is_key, keys, HoldsBelow, Holds}
use Rattle.atspi_cache_arena.specs.Table.{look_in, with_row}
use Rattle.atspi_cache_arena.specs.Arena.{is_at, is_row, IsIndexed, IsArena, rows_of}
use Rattle.atspi_cache_arena.specs.Change.{changed}
use Rattle.atspi_cache_arena.specs.declared.change.Change.{Change}
use Rattle.atspi_cache_arena.specs.declared.change.Change.TheVariants.{Renewed, Name, Description, Role, State, Text, TextIs, Caret, CaretIs, ColumnsIs}
use Rattle.atspi_cache_arena.specs.declared.cell.Cell.{Cell}
use Rattle.atspi_cache_arena.specs.declared.paths.Paths.{Paths}
use Rattle.atspi_cache_arena.proofs.Shown.{rows, seen, Becomes, becomes}
use Rattle.atspi_cache_arena.proofs.Inserted.{Alike, one_test, key_once}

-- no change touches the path
pub same_path : (with : Change) (row : Row) → (changed with row).path ≡ row.path
same_path (Renewed name description role states faces) row = refl
same_path (Name x) row = refl
same_path (Description x) row = refl
same_path (Role x) row = refl
same_path (State s on) row = refl
same_path (Text x) row = refl
same_path (TextIs x) row = refl
same_path (Caret at) row = refl
same_path (CaretIs at) row = refl
same_path (ColumnsIs n) row = refl

module _ (k : ℕ) (h : Row → Row) (kept_path : (row : Row) → (h row).path ≡ row.path) where
  abbrev pub node_with : Bool → Node Row → Node Row
  node_with true a = record a { row = h a.row }
  node_with false a = a

  abbrev pub redone : Forest (Node Row) → Forest (Node Row)
  redone f = relabel (λ a. node_with (is_key k a) a) f

  key_same : (b : Bool) (a : Node Row) → (node_with b a).key ≡ a.key
  key_same true a = refl
  key_same false a = refl

  same_key : (n : ℕ) → Same (λ (a : Node Row). node_with (is_key k a) a) (is_key n) (is_key n)
  same_key n a = ap (λ m. m == n) (key_same (is_key k a) a)

  path_same : (b : Bool) (a : Node Row) → (node_with b a).row.path ≡ a.row.path
  path_same true a = kept_path a.row
  path_same false a = refl

  same_at : (q : List ℕ) → Same (λ (a : Node Row). node_with (is_key k a) a) (is_at q) (is_at q)
  same_at q a = ap (λ p. bytes_eq p q) (path_same (is_key k a) a)

  same_row : (q : List ℕ) (n : ℕ) → Same (λ (a : Node Row). node_with (is_key k a) a) (is_row q n) (is_row q n)
  same_row q n a = rw (same_key n a, same_at q a) refl

  keys-redone : (f : Forest (Node Row)) → keys (redone f) ≡ keys f
  keys-redone nil = refl
  keys-redone (tree a c r) = ap (λ l. (node_with (is_key k a) a).key ∷ l) (keys-redone r) ∙ ap (λ m. m ∷ keys r) (key_same (is_key k a) a)

  module _ (look look' : ℕ → Option (Kept Row)) (here : (x : Kept Row) → look k ≡ Some x → look' k ≡ Some (with_row h x))
      (others : (n : ℕ) → n ≢ k → look' n ≡ look n) where
    node_redone : (up : Option ℕ) (a : Node Row) (c : Forest (Node Row)) (b : Bool) → (a.key == k) ≡ b
        → look a.key ≡ Some (record { row = a.row; children = keys c; parent = up })
        → look' (node_with b a).key ≡ Some (record { row = (node_with b a).row; children = keys (redone c); parent = up })
    node_redone up a c true e l =
        let same : a.key ≡ k = eqb-true a.key k e in
        ap look' same ∙ (here (record { row = a.row; children = keys c; parent = up }) (ap look (sym same) ∙ l)
        ∙ ap (λ (m : List ℕ). Some (record { row = h a.row; children = m; parent = up })) (sym (keys-redone c)))
    node_redone up a c false e l =
        others a.key (λ s. let t = eq-eqb a.key k s in cc) ∙ (l
        ∙ ap (λ (m : List ℕ). Some (record { row = a.row; children = m; parent = up })) (sym (keys-redone c)))

    holds-redone : (up : Option ℕ) (f : Forest (Node Row)) → HoldsBelow look up f → HoldsBelow look' up (redone f)
    holds-redone up nil e = tt
    holds-redone up (tree a c r) e = (
      node_redone up a c (a.key == k) refl e.0,
      subst (λ m. HoldsBelow look' (Some m) (redone c)) (sym (key_same (is_key k a) a)) (holds-redone (Some a.key) c e.1),
      holds-redone up r e.2,
    )

    pub table_redone : (f : Forest (Node Row)) → Holds look f → count (is_key k) f ≡ 1 → Holds look' (redone f)
    table_redone f e one = record {
      nodes = holds-redone None f e.nodes;
      once = λ n. (let s = count-relabel (λ (a : Node Row). node_with (is_key k a) a) (is_key n) (is_key n) (same_key n) f in let z = e.once n in omega arith);
      only = λ n z. (let s = count-relabel (λ (a : Node Row). node_with (is_key k a) a) (is_key n) (is_key n) (same_key n) f in
          let none : count (is_key n) f ≡ 0 = omega arith in
          others n (λ t. let y = ap (λ m. count (is_key m) f) t in absurd (omega arith)) ∙ e.only n none);
    }

  pub index_redone : (paths : Paths) (f : Forest (Node Row)) → IsIndexed paths f → IsIndexed paths (redone f)
  index_redone paths f a = record {
    root = keys-redone f ∙ a.root;
    index = λ q m. (let o = a.index q m in let s = count-relabel (λ (a : Node Row). node_with (is_key k a) a) (is_row q m) (is_row q m) (same_row q m) f in
        ((λ x. let y = o.0 x in omega arith), (λ y. o.1 (omega arith))));
    once = λ q. (let o = a.once q in let s = count-relabel (λ (a : Node Row). node_with (is_key k a) a) (is_at q) (is_at q) (same_at q) f in omega arith);
  }

  pub rows_redone : (path : List ℕ) (f : Forest (Node Row)) → Alike path k f → rows (redone f) ≡ change (is_path path) h (rows f)
  rows_redone path nil e = refl
  rows_redone path (tree a c r) e =
      rw (rows_redone path c e.1, rows_redone path r e.2)
      (ap (λ (row : Row). tree row (change (is_path path) h (rows c)) (change (is_path path) h (rows r))) (one (is_key k a) (is_at path a) e.0))
    where
      one : (b d : Bool) → b ≡ d → (node_with b a).row ≡ cond d (h a.row) a.row
      one true true e = refl
      one false false e = refl
      one true false e = cc
      one false true e = cc

pub changed_arena : (s s' : Slab Cell) (paths : Paths) (v : Forest Row) (path : List ℕ) (k : ℕ) (with : Change) (c : IsArena s paths) → rows_of s paths ≡ v
    → get_by_text paths.index path ≡ Some k
    → ((x : Kept Row) → look_in s k ≡ Some x → look_in s' k ≡ Some (with_row (changed with) x)) → ((n : ℕ) → n ≢ k → look_in s' n ≡ look_in s n)
    → Becomes s' paths (change (is_path path) (changed with) v)
changed_arena s s' paths v path k with c view known here others =
    becomes s' paths (redone k (changed with) (same_path with) c.forest) (change (is_path path) (changed with) v) after refl
    (rows_redone k (changed with) (same_path with) path c.forest (one_test s paths path k c known) ∙ ap (change (is_path path) (changed with)) (sym (seen s paths c) ∙ view))
  where
    after : IsArena s' paths
    after = record {
      forest = redone k (changed with) (same_path with) c.forest;
      held = table_redone k (changed with) (same_path with) (look_in s) (look_in s') here others c.forest c.held (key_once s paths path k c known);
      indexed = index_redone k (changed with) (same_path with) paths c.forest c.indexed;
    }

-- where nothing passes, nothing changes
pub change-none : (p : Row → Bool) (h : Row → Row) (f : Forest Row) → count p f ≡ 0 → change p h f ≡ f
change-none p h nil z = refl
change-none p h (tree a c r) z = at (p a) z (change-none p h c (omega arith)) (change-none p h r (omega arith))
  where
    at : (b : Bool) → cond b 1 0 + (count p c + count p r) ≡ 0 → change p h c ≡ c → change p h r ≡ r
        → tree (cond b (h a) a) (change p h c) (change p h r) ≡ tree a c r
    at true z x y = absurd (omega arith)
    at false z x y = rw (x, y) refl
