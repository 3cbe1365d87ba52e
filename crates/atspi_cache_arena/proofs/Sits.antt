-- Where a row stands among its siblings.
use Rattle.std.proofs.Common.{◌≡◌, ◌⊎◌, inl, inr, ℕ, zero, suc, ◌+◌, ◌≤◌, ◌==◌, Bool, true, false, cond, Option, Some, None, List, [], ◌∷◌, refl, sym, ap, ◌∙◌, arith}
use Rattle.std.specs.Prelude.{ℤ, pos, negsuc, slice_get, bytes_eq}
use Rattle.std.specs.HashMap.{get_by_text}
use Rattle.std.proofs.lemmas.Bool.{eqb-true, eq-eqb}
use Rattle.slab.specs.Slab.{Slab}
use Rattle.atspi_tree_model.specs.declared.view.Row.{Row}
use Rattle.atspi_tree_model.specs.Forest.{Forest, nil, tree, count, place}
use Rattle.atspi_tree_model.specs.News.{is_path, is_seat_at, seat_in, spot}
use Rattle.atspi_tree_model.proofs.Seats.{place-none}
use Rattle.atspi_cache_arena.specs.Keys.{Node, Kept, is_key, keys, HoldsBelow}
use Rattle.atspi_cache_arena.specs.Table.{look_in, parent_in, is_this, is_child_at, sits, sits_below, times}
use Rattle.atspi_cache_arena.specs.Arena.{IsArena, rows_of}
use Rattle.atspi_cache_arena.specs.declared.cell.Cell.{Cell}
use Rattle.atspi_cache_arena.specs.declared.paths.Paths.{Paths}
use Rattle.atspi_cache_arena.proofs.Shown.{rows, seen}
use Rattle.atspi_cache_arena.proofs.Inserted.{Alike, one_test, key_once, not_known}

-- what a place calls a parent
abbrev named : Node Row → Option (List ℕ)
named n = Some n.row.path

place-rows : (q : List ℕ) (k : ℕ) (up : Option (List ℕ)) (i : ℕ) (f : Forest (Node Row)) → Alike q k f
    → place (λ (row : Row). Some row.path) (is_path q) up i (rows f) ≡ place named (is_key k) up i f
place-rows q k up i nil e = refl
place-rows q k up i (tree a c r) e = rw (e.0, place-rows q k (Some a.row.path) 0 c e.1, place-rows q k up (suc i) r e.2) refl

here : (xs : List ℕ) (i key : ℕ) → slice_get xs i ≡ Some key → 1 ≤ times key xs
here [] i key e = cc
here (x ∷ xs) zero key e =
    let same : x ≡ key = cc in
    let z : cond {A = ℕ} (x == key) 1 0 ≡ 1 = ap (λ b. cond {A = ℕ} b 1 0) (eq-eqb x key same) in omega arith
here (x ∷ xs) (suc i) key e = let z = here xs i key e in omega arith

pub one_place : (xs : List ℕ) (i j key : ℕ) → slice_get xs i ≡ Some key → slice_get xs j ≡ Some key → times key xs ≤ 1 → i ≡ j
one_place [] i j key e f l = cc
one_place (x ∷ xs) zero zero key e f l = refl
one_place (x ∷ xs) zero (suc j) key e f l =
    let same : x ≡ key = cc in
    let z : cond {A = ℕ} (x == key) 1 0 ≡ 1 = ap (λ b. cond {A = ℕ} b 1 0) (eq-eqb x key same) in
    let y = here xs j key f in absurd (omega arith)
one_place (x ∷ xs) (suc i) zero key e f l =
    let same : x ≡ key = cc in
    let z : cond {A = ℕ} (x == key) 1 0 ≡ 1 = ap (λ b. cond {A = ℕ} b 1 0) (eq-eqb x key same) in
    let y = here xs i key e in absurd (omega arith)
one_place (x ∷ xs) (suc i) (suc j) key e f l = ap suc (one_place xs i j key e f (omega arith))

pub times_keys : (key : ℕ) (f : Forest (Node Row)) → times key (keys f) ≤ count (is_key key) f
times_keys key nil = omega arith
times_keys key (tree a c r) = let z = times_keys key r in omega arith

-- a key stands at the top, or among the children of a node
abbrev Top : (ℕ → Option (Kept Row)) → Option ℕ → Option (List ℕ) → ℕ → ℕ → Forest (Node Row) → Type 0
Top look up name i key f =
    (j : ℕ) × (slice_get (keys f) j ≡ Some key) × (parent_in (look key) ≡ up) × (place named (is_key key) name i f ≡ Some (name, i + j))

abbrev Child : (ℕ → Option (Kept Row)) → Option (List ℕ) → ℕ → ℕ → Forest (Node Row) → Type 0
Child look name i key f =
    (n : ℕ) × (y : Kept Row) × (j : ℕ) × (look n ≡ Some y) × (slice_get y.children j ≡ Some key) × (times key y.children ≤ 1)
    × (parent_in (look key) ≡ Some n) × (place named (is_key key) name i f ≡ Some (Some y.row.path, j))

stands : (look : ℕ → Option (Kept Row)) (up : Option ℕ) (name : Option (List ℕ)) (i key : ℕ) (f : Forest (Node Row)) → HoldsBelow look up f
    → count (is_key key) f ≡ 1 → Top look up name i key f ⊎ Child look name i key f
stands look up name i key nil h one = absurd (omega arith)
stands look up name i key (tree a c r) h one =
    at (a.key == key) refl (count (is_key key) c) refl one (λ z. stands look (Some a.key) (Some a.row.path) 0 key c h.1 z) (λ z. stands look up name (suc i) key r h.2 z)
  where
    in_children : (a.key == key) ≡ false → {o : Option (List ℕ)} {j : ℕ} → place named (is_key key) (Some a.row.path) 0 c ≡ Some (o, j) → place named (is_key key) name i (tree a c r) ≡ Some (o, j)
    in_children eb e = rw (eb, e) refl

    at : (b : Bool) → (a.key == key) ≡ b → (m : ℕ) → count (is_key key) c ≡ m → cond b 1 0 + (count (is_key key) c + count (is_key key) r) ≡ 1
        → (count (is_key key) c ≡ 1 → Top look (Some a.key) (Some a.row.path) 0 key c ⊎ Child look (Some a.row.path) 0 key c)
        → (count (is_key key) r ≡ 1 → Top look up name (suc i) key r ⊎ Child look name (suc i) key r)
        → Top look up name i key (tree a c r) ⊎ Child look name i key (tree a c r)
    at true eb m em one hc hr =
        let same = eqb-true a.key key eb in
        inl (0, ap Some same, ap parent_in (ap look (sym same) ∙ h.0), rw eb (ap (λ n. Some (name, n)) (omega arith)))
    at false eb (suc m) em one hc hr = by (hc (omega arith))
      where
        by : Top look (Some a.key) (Some a.row.path) 0 key c ⊎ Child look (Some a.row.path) 0 key c → Top look up name i key (tree a c r) ⊎ Child look name i key (tree a c r)
        by (inl t) = inr (
          a.key,
          record { row = a.row; children = keys c; parent = up },
          t.0,
          h.0,
          t.1,
          (let z = times_keys key c in omega arith),
          t.2,
          in_children eb (t.3 ∙ ap (λ n. Some (Some a.row.path, n)) (omega arith)),
        )
        by (inr t) = inr (t.0, t.1, t.2, t.3, t.4, t.5, t.6, in_children eb t.7)
    at false eb zero em one hc hr = by (hr (omega arith))
      where
        none : place named (is_key key) (Some a.row.path) 0 c ≡ None
        none = place-none named (is_key key) (Some a.row.path) 0 c em

        in_rest : {o : Option (List ℕ)} {j : ℕ} → place named (is_key key) name (suc i) r ≡ Some (o, j) → place named (is_key key) name i (tree a c r) ≡ Some (o, j)
        in_rest e = rw (eb, none) e

        by : Top look up name (suc i) key r ⊎ Child look name (suc i) key r → Top look up name i key (tree a c r) ⊎ Child look name i key (tree a c r)
        by (inl t) = inl (suc t.0, t.1, t.2, in_rest (t.3 ∙ ap (λ n. Some (name, n)) (omega arith)))
        by (inr t) = inr (t.0, t.1, t.2, t.3, t.4, t.5, t.6, in_rest t.7)

-- the key at a place is this one just where the place is the key's
is_place : (xs : List ℕ) (i j key : ℕ) → slice_get xs j ≡ Some key → times key xs ≤ 1 → is_this key (slice_get xs i) ≡ (j == i)
is_place xs i j key e l = by (j == i) refl (slice_get xs i) refl
  where
    by : (b : Bool) → (j == i) ≡ b → (o : Option ℕ) → slice_get xs i ≡ o → is_this key o ≡ b
    by true eb o eo =
        let same = eqb-true j i eb in
        ap (is_this key) (sym eo ∙ (ap (slice_get xs) (sym same) ∙ e)) ∙ eq-eqb key key refl
    by false eb None eo = refl
    by false eb (Some k) eo = at (k == key) refl
      where
        at : (d : Bool) → (k == key) ≡ d → (k == key) ≡ false
        at false ed = ed
        at true ed =
            let same = one_place xs j i key e (eo ∙ ap Some (eqb-true k key ed)) l in
            let z = eq-eqb j i same in absurd cc

pub sits_there : (s : Slab Cell) (paths : Paths) (v : Forest Row) (path p : List ℕ) (i key : ℕ) (c : IsArena s paths) → rows_of s paths ≡ v
    → get_by_text paths.index path ≡ Some key → sits (look_in s) p i key ≡ is_seat_at p (pos i) (seat_in path v)
sits_there s paths v path p i key c view known =
    by (stands (look_in s) None None 0 key c.forest c.held.nodes (key_once s paths path key c known))
    ∙ sym (ap (λ g. is_seat_at p (pos i) (seat_in path g)) (sym view ∙ seen s paths c)
    ∙ ap (is_seat_at p (pos i)) (place-rows path key None 0 c.forest (one_test s paths path key c known)))
  where
    by : Top (look_in s) None None 0 key c.forest ⊎ Child (look_in s) None 0 key c.forest → sits (look_in s) p i key ≡ is_seat_at p (pos i) (place named (is_key key) None 0 c.forest)
    by (inl t) = ap (sits_below (look_in s) p i key) t.2 ∙ sym (ap (is_seat_at p (pos i)) t.3)
    by (inr t) =
        ap (sits_below (look_in s) p i key) t.6
        ∙ (ap (λ o. cond (has_path_of o) (is_child_at i key o) false) t.3
        ∙ (ap (λ b. cond (bytes_eq t.1.row.path p) b false) (is_place t.1.children i t.2 key t.4 t.5)
        ∙ sym (ap (is_seat_at p (pos i)) t.7)))
      where
        has_path_of : Option (Kept Row) → Bool
        has_path_of None = false
        has_path_of (Some k) = bytes_eq k.row.path p

pub no_seat : (s : Slab Cell) (paths : Paths) (v : Forest Row) (path p : List ℕ) (z : ℤ) (c : IsArena s paths) → rows_of s paths ≡ v
    → get_by_text paths.index path ≡ None → false ≡ is_seat_at p z (seat_in path v)
no_seat s paths v path p z c view none =
    sym (ap (is_seat_at p z) (place-none (λ (row : Row). Some row.path) (is_path path) None 0 v (not_known s paths v path c view none)))

pub below_zero : (p : List ℕ) (z : ℤ) (o : Option (Option (List ℕ) × ℕ)) → spot z ≡ None → false ≡ is_seat_at p z o
below_zero p (pos n) o e = cc
below_zero p (negsuc n) None e = refl
below_zero p (negsuc n) (Some x) e = refl

pub at_spot : (z : ℤ) (i : ℕ) → spot z ≡ Some i → pos i ≡ z
at_spot (pos n) i e = let same : n ≡ i = cc in sym (ap pos same)
at_spot (negsuc n) i e = cc
