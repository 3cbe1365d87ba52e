-- Which rows are left when a row and all below it are taken out.
use Rattle.std.proofs.Common.{◌≡◌, ℕ, zero, suc, ◌+◌, ◌≤◌, ◌==◌, Bool, true, false, cond, not, Some, None, List, [], ◌∷◌, refl, sym, ap, ◌∙◌, arith}
use Rattle.std.specs.Prelude.{nat_eq, ◌||◌}
use Rattle.std.specs.List.{list_any}
use Rattle.std.specs.HashMap.{get_by_text}
use Rattle.slab.specs.Slab.{Slab}
use Rattle.atspi_tree_model.specs.declared.view.Row.{Row}
use Rattle.atspi_tree_model.specs.Forest.{Forest, count, has, take_out, pick}
use Rattle.atspi_tree_model.specs.News.{is_path}
use Rattle.atspi_tree_model.proofs.Counts.{count-parts}
use Rattle.atspi_tree_model.proofs.Found.{has-count, not_there, take_out-none}
use Rattle.atspi_tree_model.proofs.Relabel.{relabel-take_out, has-relabel}
use Rattle.atspi_cache_arena.specs.Keys.{Node, is_key}
use Rattle.atspi_cache_arena.specs.Table.{IsSubtree, is_among, times}
use Rattle.atspi_cache_arena.specs.Arena.{is_at, is_row, IsArena, rows_of}
use Rattle.atspi_cache_arena.specs.declared.cell.Cell.{Cell}
use Rattle.atspi_cache_arena.specs.declared.paths.Paths.{Paths}
use Rattle.atspi_cache_arena.proofs.Shown.{rows, seen}
use Rattle.atspi_cache_arena.proofs.Inserted.{row_le, one_test, not_known}
use Rattle.atspi_cache_arena.proofs.Removed.{take_out-alike, among-times}

pub among_any : (key : ℕ) (xs : List ℕ) → list_any (λ y. nat_eq y key) xs ≡ is_among key xs
among_any key [] = refl
among_any key (x ∷ xs) = at (x == key) (among_any key xs)
  where
    at : (b : Bool) → list_any (λ y. nat_eq y key) xs ≡ is_among key xs → (b || list_any (λ y. nat_eq y key) xs) ≡ cond b true (is_among key xs)
    at true e = refl
    at false e = e

pub no_row_left : (s : Slab Cell) (paths : Paths) (v : Forest Row) (row path : List ℕ) → IsArena s paths → rows_of s paths ≡ v → get_by_text paths.index row ≡ None
    → false ≡ has (is_path row) (take_out (is_path path) v)
no_row_left s paths v row path c view none =
    let a = not_known s paths v row c view none in
    let b = count-parts (is_path row) (is_path path) v in
    sym (not_there (is_path row) (take_out (is_path path) v) (omega arith))

known_row : (s : Slab Cell) (paths : Paths) (row : List ℕ) (k : ℕ) (c : IsArena s paths) → get_by_text paths.index row ≡ Some k → 1 ≤ count (is_at row) c.forest
known_row s paths row k c known = let a = (c.indexed.index row k).0 known in let b = (row_le row k c.forest).1 in omega arith

pub all_left : (s : Slab Cell) (paths : Paths) (v : Forest Row) (row path : List ℕ) (k : ℕ) (c : IsArena s paths) → rows_of s paths ≡ v
    → get_by_text paths.index row ≡ Some k → get_by_text paths.index path ≡ None → true ≡ has (is_path row) (take_out (is_path path) v)
all_left s paths v row path k c view known none =
    sym (ap (has (is_path row)) (take_out-none (is_path path) v (not_known s paths v path c view none))
    ∙ (ap (has (is_path row)) (sym view ∙ seen s paths c)
    ∙ (has-relabel (λ (n : Node Row). n.row) (is_path row) (is_at row) (λ a. refl) c.forest
    ∙ has-count (is_at row) c.forest (known_row s paths row k c known))))

pub left_outside : (s : Slab Cell) (paths : Paths) (v : Forest Row) (row path : List ℕ) (other key : ℕ) (ks : List ℕ) (c : IsArena s paths) → rows_of s paths ≡ v
    → get_by_text paths.index row ≡ Some other → get_by_text paths.index path ≡ Some key → IsSubtree key c.forest ks
    → not (is_among other ks) ≡ has (is_path row) (take_out (is_path path) v)
left_outside s paths v row path other key ks c view known_row known sub =
    by (is_among other ks) refl (times other ks) refl
    ∙ sym (ap (λ g. has (is_path row) (take_out (is_path path) g)) (sym view ∙ seen s paths c)
    ∙ (ap (has (is_path row)) (relabel-take_out (λ (n : Node Row). n.row) (is_path path) (is_at path) (λ a. refl) c.forest
    ∙ ap rows (sym (take_out-alike (is_key key) (is_at path) c.forest (one_test s paths path key c known))))
    ∙ has-relabel (λ (n : Node Row). n.row) (is_path row) (is_at row) (λ a. refl) (take_out (is_key key) c.forest)))
  where
    by : (b : Bool) → is_among other ks ≡ b → (n : ℕ) → times other ks ≡ n → not b ≡ has (is_at row) (take_out (is_key key) c.forest)
    by true e zero en = let z = among-times other ks en in cc
    by true e (suc n) en =
        let a = (c.indexed.index row other).0 known_row in
        let b = sub other in
        let d = count-parts (is_key other) (is_key key) c.forest in
        let f = count-parts (is_row row other) (is_key key) c.forest in
        let g = count-parts (is_at row) (is_key key) c.forest in
        let h = (row_le row other (take_out (is_key key) c.forest)).0 in
        let i = (row_le row other (pick (is_key key) c.forest)).1 in
        let j = c.held.once other in
        let k = c.indexed.once row in
        sym (not_there (is_at row) (take_out (is_key key) c.forest) (omega arith))
    by false e (suc n) en = let z = among-false other ks e in absurd (omega arith)
      where
        among-false : (k : ℕ) (xs : List ℕ) → is_among k xs ≡ false → times k xs ≡ 0
        among-false k [] e = refl
        among-false k (x ∷ xs) e = at (x == k) (λ z. among-false k xs z) e
          where
            at : (b : Bool) → (is_among k xs ≡ false → times k xs ≡ 0) → cond b true (is_among k xs) ≡ false → cond b 1 0 + times k xs ≡ 0
            at true ih e = cc
            at false ih e = let z = ih e in omega arith
    by false e zero en =
        let a = (c.indexed.index row other).0 known_row in
        let b = sub other in
        let f = count-parts (is_row row other) (is_key key) c.forest in
        let h = (row_le row other (pick (is_key key) c.forest)).0 in
        let i = (row_le row other (take_out (is_key key) c.forest)).1 in
        sym (has-count (is_at row) (take_out (is_key key) c.forest) (omega arith))
