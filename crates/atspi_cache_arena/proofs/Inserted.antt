-- An arena after one row is put into it.
use Rattle.std.proofs.Common.{◌≡◌, ◌≢◌, ◌↔◌, ℕ, zero, suc, ◌+◌, ◌≤◌, ◌==◌, Bool, true, false, cond, Option, Some, None, List, [], refl, sym, ap, ◌∙◌, subst, arith}
use Rattle.std.specs.Prelude.{bytes_eq, IsSome, OnOk, OnErr}
use Rattle.std.specs.declared.result.Result.{Result}
use Rattle.std.specs.declared.result.Result.TheVariants.{Ok, Err}
use Rattle.std.specs.Option.{option_to_list}
use Rattle.std.specs.HashMap.{get_by_text}
use Rattle.std.specs.Cmp.Lexicographic.{bytes_decides}
use Rattle.std.proofs.lemmas.Bool.{eqb-true, eq-eqb}
use Rattle.slab.specs.Slab.{Slab}
use Rattle.atspi_tree_model.specs.declared.view.Row.{Row}
use Rattle.atspi_tree_model.specs.Forest.{Forest, nil, tree, count, has, put_in, EachLabel}
use Rattle.atspi_tree_model.specs.News.{is_path}
use Rattle.atspi_tree_model.proofs.Counts.{count-put_in}
use Rattle.atspi_tree_model.proofs.Found.{count-has, has-count, find-none}
use Rattle.atspi_tree_model.proofs.Relabel.{relabel-put_in, has-relabel}
use Rattle.atspi_cache_arena.specs.Keys.{Node, Kept, is_key, HoldsBelow, Holds}
use Rattle.atspi_cache_arena.specs.Table.{look_in, with_child}
use Rattle.atspi_cache_arena.specs.Arena.{is_at, is_row, IsIndexed, IsArena, rows_of}
use Rattle.atspi_cache_arena.specs.declared.cell.Cell.{Cell}
use Rattle.atspi_cache_arena.specs.declared.paths.Paths.{Paths}
use Rattle.atspi_cache_arena.proofs.Held.{holds-put, holds-same, keys-put_in}
use Rattle.atspi_cache_arena.proofs.Shown.{rows, seen, entry, find_row, Becomes, becomes}

-- two tests that pass at one node, and at most once each, are one test
module _ (path : List ℕ) (k : ℕ) where
  pub row_le : (f : Forest (Node Row)) → (count (is_row path k) f ≤ count (is_key k) f) × (count (is_row path k) f ≤ count (is_at path) f)
  row_le nil = (omega arith, omega arith)
  row_le (tree a c r) = at (a.key == k) (is_at path a) (row_le c) (row_le r)
    where
      at : (b d : Bool) → (count (is_row path k) c ≤ count (is_key k) c) × (count (is_row path k) c ≤ count (is_at path) c)
          → (count (is_row path k) r ≤ count (is_key k) r) × (count (is_row path k) r ≤ count (is_at path) r)
          → (cond (cond b d false) 1 0 + (count (is_row path k) c + count (is_row path k) r) ≤ cond b 1 0 + (count (is_key k) c + count (is_key k) r))
          × (cond (cond b d false) 1 0 + (count (is_row path k) c + count (is_row path k) r) ≤ cond d 1 0 + (count (is_at path) c + count (is_at path) r))
      at true true x y = (let p = x.0 in let q = y.0 in omega arith, let p = x.1 in let q = y.1 in omega arith)
      at true false x y = (let p = x.0 in let q = y.0 in omega arith, let p = x.1 in let q = y.1 in omega arith)
      at false true x y = (let p = x.0 in let q = y.0 in omega arith, let p = x.1 in let q = y.1 in omega arith)
      at false false x y = (let p = x.0 in let q = y.0 in omega arith, let p = x.1 in let q = y.1 in omega arith)

  abbrev pub Alike : Forest (Node Row) → Type 0
  Alike f = EachLabel (λ a. is_key k a ≡ is_at path a) f

  neither : (f : Forest (Node Row)) → count (is_key k) f ≡ 0 → count (is_at path) f ≡ 0 → Alike f
  neither nil x y = tt
  neither (tree a c r) x y = (at (a.key == k) (is_at path a) x y, neither c (omega arith) (omega arith), neither r (omega arith) (omega arith))
    where
      at : (b d : Bool) → cond b 1 0 + (count (is_key k) c + count (is_key k) r) ≡ 0 → cond d 1 0 + (count (is_at path) c + count (is_at path) r) ≡ 0 → b ≡ d
      at true d x y = absurd (omega arith)
      at false true x y = absurd (omega arith)
      at false false x y = refl

  pub alike : (f : Forest (Node Row)) → count (is_key k) f ≤ 1 → count (is_at path) f ≤ 1 → 1 ≤ count (is_row path k) f → Alike f
  alike nil x y m = tt
  alike (tree a c r) x y m = at (a.key == k) refl (is_at path a) refl (count (is_row path k) c) refl x y m (λ m. alike c (omega arith) (omega arith) m) (λ m. alike r (omega arith) (omega arith) m)
    where
      at : (b : Bool) → (a.key == k) ≡ b → (d : Bool) → is_at path a ≡ d → (n : ℕ) → count (is_row path k) c ≡ n
          → cond b 1 0 + (count (is_key k) c + count (is_key k) r) ≤ 1 → cond d 1 0 + (count (is_at path) c + count (is_at path) r) ≤ 1
          → 1 ≤ cond (cond b d false) 1 0 + (count (is_row path k) c + count (is_row path k) r)
          → (1 ≤ count (is_row path k) c → Alike c) → (1 ≤ count (is_row path k) r → Alike r) → Alike (tree a c r)
      at true eb true ed n en x y m hc hr = (eb ∙ sym ed, neither c (omega arith) (omega arith), neither r (omega arith) (omega arith))
      at true eb false ed n en x y m hc hr = let p = (row_le c).0 in let q = (row_le r).0 in absurd (omega arith)
      at false eb true ed n en x y m hc hr = let p = (row_le c).1 in let q = (row_le r).1 in absurd (omega arith)
      at false eb false ed (suc n) en x y m hc hr = let p = row_le c in let p0 = p.0 in let p1 = p.1 in (eb ∙ sym ed, hc (omega arith), neither r (omega arith) (omega arith))
      at false eb false ed zero en x y m hc hr = let p = row_le r in let p0 = p.0 in let p1 = p.1 in (eb ∙ sym ed, neither c (omega arith) (omega arith), hr (omega arith))

pub put_in-alike : (p q : Node Row → Bool) (i : Option ℕ) (g f : Forest (Node Row)) → EachLabel (λ a. p a ≡ q a) f → put_in p i g f ≡ put_in q i g f
put_in-alike p q i g nil e = refl
put_in-alike p q i g (tree a c r) e = rw (e.0, put_in-alike p q i g c e.1, put_in-alike p q i g r e.2) refl

-- no key of a forest is without a cell
pub none_there : (look : ℕ → Option (Kept Row)) (up : Option ℕ) (k : ℕ) (f : Forest (Node Row)) → HoldsBelow look up f → look k ≡ None → count (is_key k) f ≡ 0
none_there look up k nil h e = refl
none_there look up k (tree a c r) h e = at (a.key == k) refl (none_there look (Some a.key) k c h.1 e) (none_there look up k r h.2 e)
  where
    at : (b : Bool) → (a.key == k) ≡ b → count (is_key k) c ≡ 0 → count (is_key k) r ≡ 0 → cond b 1 0 + (count (is_key k) c + count (is_key k) r) ≡ 0
    at true eb x y = let z = ap look (eqb-true a.key k eb) in let y = h.0 in cc
    at false eb x y = omega arith

-- what an insertion writes: a new cell at k below p, and k into the list of p
pub record Writes (look look' : ℕ → Option (Kept Row)) (p : ℕ) (at : Option ℕ) (k : ℕ) (row : Row) : Type 0 where
  pub fresh : look k ≡ None
  pub new : look' k ≡ Some (record { row = row; children = []; parent = Some p })
  pub below : (x : Kept Row) → look p ≡ Some x → look' p ≡ Some (with_child at k x)
  pub others : (n : ℕ) → n ≢ p → n ≢ k → look' n ≡ look n

abbrev pub node_of : ℕ → Row → Node Row
node_of k row = record { key = k; row = row }

module _ (look look' : ℕ → Option (Kept Row)) (p : ℕ) (at : Option ℕ) (k : ℕ) (row : Row) (w : Writes look look' p at k row) where
  abbrev put : Forest (Node Row) → Forest (Node Row)
  put f = put_in (is_key p) at (tree (node_of k row) nil nil) f

  -- the whole table
  pub holds_more : (f : Forest (Node Row)) → Holds look f → count (is_key p) f ≡ 1 → Holds look' (put f)
  holds_more f h one = record {
    nodes = holds-put look look' p at (tree (node_of k row) nil nil) (w.new, tt, tt) w.below None f
        (λ n l np. w.others n (λ e. let z = eq-eqb n p e in cc) (λ e. let z = ap (λ m. count (is_key m) f) e in let g = gone in absurd (omega arith))) h.nodes;
    once = λ n. counted_once n (k == n) refl;
    only = λ n z. absent n (k == n) refl z;
  }
    where
      gone : count (is_key k) f ≡ 0
      gone = none_there look None k f h.nodes w.fresh

      many : (n : ℕ) → count (is_key n) (put f) ≡ count (is_key n) f + (cond (k == n) 1 0 + 0)
      many n = count-put_in (is_key n) (is_key p) at (tree (node_of k row) nil nil) f ∙ rw one (omega arith)

      counted_once : (n : ℕ) (b : Bool) → (k == n) ≡ b → count (is_key n) (put f) ≤ 1
      counted_once n true e =
          let z = ap (λ m. count (is_key m) f) (eqb-true k n e) in
          let y = many n in
          let x : cond {A = ℕ} (k == n) 1 0 ≡ 1 = ap (λ b. cond {A = ℕ} b 1 0) e in
          omega (arith, gone)
      counted_once n false e = let y = many n in let x : cond {A = ℕ} (k == n) 1 0 ≡ 0 = ap (λ b. cond {A = ℕ} b 1 0) e in let z = h.once n in omega arith

      absent : (n : ℕ) (b : Bool) → (k == n) ≡ b → count (is_key n) (put f) ≡ 0 → look' n ≡ None
      absent n true e z = let y = many n in let x : cond {A = ℕ} (k == n) 1 0 ≡ 1 = ap (λ b. cond {A = ℕ} b 1 0) e in absurd (omega arith)
      absent n false e z =
          let y = many n in
          let none : count (is_key n) f ≡ 0 = omega arith in
          w.others n (λ s. let t = ap (λ m. count (is_key m) f) s in absurd (omega arith)) (λ s. let t = eq-eqb k n (sym s) in cc) ∙ h.only n none

  -- the index
  pub index_more : (paths paths' : Paths) (f : Forest (Node Row)) → IsIndexed paths f → count (is_key p) f ≡ 1 → count (is_key k) f ≡ 0 → count (is_at row.path) f ≡ 0 → paths'.root ≡ paths.root
      → ((q : List ℕ) → get_by_text paths'.index q ≡ cond (bytes_eq row.path q) (Some k) (get_by_text paths.index q)) → IsIndexed paths' (put f)
  index_more paths paths' f a one gone new_path same_root ix = record {
    root = keys-put_in (is_key p) at (tree (node_of k row) nil nil) f ∙ (a.root ∙ ap option_to_list (sym same_root));
    index = λ q m. exact q m (bytes_eq row.path q) refl (k == m) refl;
    once = λ q. once_at q (bytes_eq row.path q) refl;
  }
    where
      same_path : (q : List ℕ) → bytes_eq row.path q ≡ true → q ≡ row.path
      same_path q e = sym ((bytes_decides row.path q).0 e)

      rows_more : (q : List ℕ) (m : ℕ) → count (is_row q m) (put f) ≡ count (is_row q m) f + (cond (cond (k == m) (bytes_eq row.path q) false) 1 0 + 0)
      rows_more q m = count-put_in (is_row q m) (is_key p) at (tree (node_of k row) nil nil) f ∙ rw one (omega arith)

      paths_more : (q : List ℕ) → count (is_at q) (put f) ≡ count (is_at q) f + (cond (bytes_eq row.path q) 1 0 + 0)
      paths_more q = count-put_in (is_at q) (is_key p) at (tree (node_of k row) nil nil) f ∙ rw one (omega arith)

      none_old : (q : List ℕ) → bytes_eq row.path q ≡ true → count (is_at q) f ≡ 0
      none_old q e = subst (λ x. count (is_at x) f ≡ 0) (sym (same_path q e)) new_path

      once_at : (q : List ℕ) (b : Bool) → bytes_eq row.path q ≡ b → count (is_at q) (put f) ≤ 1
      once_at q true e = let y = paths_more q in let z = none_old q e in let x : cond {A = ℕ} (bytes_eq row.path q) 1 0 ≡ 1 = ap (λ b. cond {A = ℕ} b 1 0) e in omega arith
      once_at q false e = let y = paths_more q in let z = a.once q in let x : cond {A = ℕ} (bytes_eq row.path q) 1 0 ≡ 0 = ap (λ b. cond {A = ℕ} b 1 0) e in omega arith

      exact : (q : List ℕ) (m : ℕ) (b : Bool) → bytes_eq row.path q ≡ b → (d : Bool) → (k == m) ≡ d → (get_by_text paths'.index q ≡ Some m) ↔ (1 ≤ count (is_row q m) (put f))
      exact q m true e true ed =
          let x : cond {A = ℕ} (cond (k == m) (bytes_eq row.path q) false) 1 0 ≡ 1 = rw (ed, e) refl in
          let y = rows_more q m in
          ((λ h. omega arith), (λ h. ix q ∙ (ap (λ b. cond b (Some k) (get_by_text paths.index q)) e ∙ ap Some (eqb-true k m ed))))
      exact q m true e false ed =
          let x : cond {A = ℕ} (cond (k == m) (bytes_eq row.path q) false) 1 0 ≡ 0 = rw (ed) refl in
          let y = rows_more q m in
          let z = none_old q e in
          let t = (row_le q m f).1 in
          let g : get_by_text paths'.index q ≡ Some k = ix q ∙ ap (λ b. cond b (Some k) (get_by_text paths.index q)) e in
          ((λ h. let s : k ≡ m = cc in let u = eq-eqb k m s in cc), (λ h. absurd (omega arith)))
      exact q m false e d ed =
          let x : cond {A = ℕ} (cond (k == m) (bytes_eq row.path q) false) 1 0 ≡ 0 = rw e (none d) in
          let y = rows_more q m in
          let g : get_by_text paths'.index q ≡ get_by_text paths.index q = ix q ∙ ap (λ b. cond b (Some k) (get_by_text paths.index q)) e in
          let o = a.index q m in
          ((λ h. let z = o.0 (sym g ∙ h) in omega arith), (λ h. g ∙ o.1 (omega arith)))
        where
          none : (d : Bool) → cond {A = ℕ} (cond (k == m) false false) 1 0 ≡ 0
          none d = both (k == m)
            where
              both : (b : Bool) → cond {A = ℕ} (cond b false false) 1 0 ≡ 0
              both true = refl
              both false = refl

-- where the key and the path name one row, a row put below the key is put below the path
pub rows_put : (path : List ℕ) (p : ℕ) (at : Option ℕ) (row : Row) (k : ℕ) (f : Forest (Node Row)) → Alike path p f
    → rows (put_in (is_key p) at (tree (node_of k row) nil nil) f) ≡ put_in (is_path path) at (tree row nil nil) (rows f)
rows_put path p at row k f e =
    ap rows (put_in-alike (is_key p) (is_at path) at (tree (node_of k row) nil nil) f e)
    ∙ sym (relabel-put_in (λ n. n.row) (is_path path) (is_at path) (λ a. refl) at (tree (node_of k row) nil nil) f)

no_path : (path : List ℕ) (f : Forest (Node Row)) → has (is_path path) (rows f) ≡ false → count (is_at path) f ≡ 0
no_path path f h = at (count (is_at path) f) refl
  where
    at : (n : ℕ) → count (is_at path) f ≡ n → count (is_at path) f ≡ 0
    at zero e = e
    at (suc n) e = let k = has-count (is_at path) f (omega arith) in let z = has-relabel (λ (n : Node Row). n.row) (is_path path) (is_at path) (λ a. refl) f in cc

-- a key that an index knows has a cell
pub key_there : (s : Slab Cell) (paths : Paths) (path : List ℕ) (k : ℕ) → IsArena s paths → get_by_text paths.index path ≡ Some k → IsSome (look_in s k)
key_there s paths path k c known =
    let x = entry (look_in s) None c.forest path k c.held.nodes (c.indexed.once path) ((c.indexed.index path k).0 known) in
    subst IsSome (sym x.kept.1) (let t : IsSome (Some x.kept.0) = refl in t)

-- and stands once in the forest
pub key_once : (s : Slab Cell) (paths : Paths) (path : List ℕ) (k : ℕ) (c : IsArena s paths) → get_by_text paths.index path ≡ Some k → count (is_key k) c.forest ≡ 1
key_once s paths path k c known =
    let a = (c.indexed.index path k).0 known in
    let b = (row_le path k c.forest).0 in
    let z = c.held.once k in
    omega arith

-- where the index knows a path, the tests for the path and for its key are one
pub one_test : (s : Slab Cell) (paths : Paths) (path : List ℕ) (k : ℕ) (c : IsArena s paths) → get_by_text paths.index path ≡ Some k → Alike path k c.forest
one_test s paths path k c known = alike path k c.forest (c.held.once k) (c.indexed.once path) ((c.indexed.index path k).0 known)

pub inserted : (s s' : Slab Cell) (paths paths' : Paths) (v : Forest Row) (path : List ℕ) (p : ℕ) (at : Option ℕ) (k : ℕ) (row : Row)
    → IsArena s paths → rows_of s paths ≡ v → get_by_text paths.index path ≡ Some p
    → Writes (look_in s) (look_in s') p at k row
    → has (is_path row.path) v ≡ false
    → paths'.root ≡ paths.root → ((q : List ℕ) → get_by_text paths'.index q ≡ cond (bytes_eq row.path q) (Some k) (get_by_text paths.index q))
    → Becomes s' paths' (put_in (is_path path) at (tree row nil nil) v)
inserted s s' paths paths' v path p at k row c view known w is_new same_root ix =
    becomes s' paths' (put_in (is_key p) at (tree (node_of k row) nil nil) c.forest) (put_in (is_path path) at (tree row nil nil) v) after refl
    (rows_put path p at row k c.forest (one_test s paths path p c known) ∙ ap (put_in (is_path path) at (tree row nil nil)) (sym (seen s paths c) ∙ view))
  where
    one : count (is_key p) c.forest ≡ 1
    one = key_once s paths path p c known

    gone : count (is_key k) c.forest ≡ 0
    gone = none_there (look_in s) None k c.forest c.held.nodes w.fresh

    after : IsArena s' paths'
    after = record {
      forest = put_in (is_key p) at (tree (node_of k row) nil nil) c.forest;
      held = holds_more (look_in s) (look_in s') p at k row w c.forest c.held one;
      indexed = index_more (look_in s) (look_in s') p at k row w paths paths' c.forest c.indexed one gone
          (no_path row.path c.forest (ap (has (is_path row.path)) (sym (seen s paths c) ∙ view) ∙ is_new)) same_root ix;
    }

-- after a refusal: each look-up is as before
pub refused : (s s' : Slab Cell) (paths paths' : Paths) (v : Forest Row) → IsArena s paths → rows_of s paths ≡ v
    → ((n : ℕ) → look_in s' n ≡ look_in s n) → paths'.root ≡ paths.root → ((q : List ℕ) → get_by_text paths'.index q ≡ get_by_text paths.index q)
    → Becomes s' paths' v
refused s s' paths paths' v c view same same_root ix = becomes s' paths' c.forest v after refl (sym (seen s paths c) ∙ view)
  where
    after : IsArena s' paths'
    after = record {
      forest = c.forest;
      held = record {
        nodes = holds-same (look_in s) (look_in s') None c.forest (λ n l. same n) c.held.nodes;
        once = c.held.once;
        only = λ n z. same n ∙ c.held.only n z;
      };
      indexed = record {
        root = c.indexed.root ∙ ap option_to_list (sym same_root);
        index = λ q m. ((λ h. (c.indexed.index q m).0 (sym (ix q) ∙ h)), (λ h. ix q ∙ (c.indexed.index q m).1 h));
        once = c.indexed.once;
      };
    }

-- what the index does not know is not in the rows
pub not_known : (s : Slab Cell) (paths : Paths) (v : Forest Row) (path : List ℕ) → IsArena s paths → rows_of s paths ≡ v → get_by_text paths.index path ≡ None
    → count (is_path path) v ≡ 0
not_known s paths v path c view none = find-none (is_path path) v (find_row s paths v path c view None none)

pub not_there : (s : Slab Cell) (paths : Paths) (v : Forest Row) (path : List ℕ) → IsArena s paths → rows_of s paths ≡ v → get_by_text paths.index path ≡ None
    → has (is_path path) v ≡ true → ⊥
not_there s paths v path c view none there =
    let a = not_known s paths v path c view none in let b = count-has (is_path path) v there in absurd (omega arith)

-- the clauses of a call that wrote, and of one that was refused
pub on_ok : {X E A : Type 0} (r : Result X E) (x : X) → r ≡ Ok x → OnOk r A → A
on_ok {A = A} r x e h = subst (λ r. OnOk r A) e h

pub on_err : {X E A : Type 0} (r : Result X E) (x : E) → r ≡ Err x → OnErr r A → A
on_err {A = A} r x e h = subst (λ r. OnErr r A) e h

abbrev pub by_result : {X E A : Type 0} → Result X E → A → A → A
by_result (Ok x) new old = new
by_result (Err x) new old = old

pub ok_is : {X E A : Type 0} (r : Result X E) (v new old : A) → v ≡ by_result r new old → OnOk r (v ≡ new)
ok_is (Ok x) v new old e = e
ok_is (Err x) v new old e = tt

pub err_is : {X E A : Type 0} (r : Result X E) (v new old : A) → v ≡ by_result r new old → OnErr r (v ≡ old)
err_is (Ok x) v new old e = tt
err_is (Err x) v new old e = e
