-- What is still to be put in, as a list of borrowed items.
use Rattle.std.proofs.Common.{◌≡◌, ℕ, zero, suc, ◌+◌, ◌<◌, ◌≤◌, List, [], ◌∷◌, length, drop, get_or, refl, sym, ap, ◌∙◌, subst, arith}
use denote.Ref.{Bor}
use Rattle.atspi_tree_model.specs.declared.view.Row.{Row}
use Rattle.atspi_tree_model.specs.declared.news.Item.{Item}
use Rattle.atspi_tree_model.specs.Forest.{Forest, nil, tree}
use Rattle.atspi_tree_model.specs.News.{fresh, load}
use Rattle.atspi_cache.specs.loading.Shared.{reached_items, shared}
use Rattle.atspi_cache.proofs.OfLoading.FillLemmas.{IsLeft, begin_load, empty_load}

drop_first : (xs : List (Bor Item)) (i : ℕ) (d : Bor Item) → i < length xs → drop i xs ≡ get_or xs i d ∷ drop (i + 1) xs
drop_first [] i d l = absurd (omega arith)
drop_first (x ∷ xs) zero d l = refl
drop_first (x ∷ xs) (suc i) d l =
    let e : suc (i + 1) ≡ suc i + 1 = omega arith in
    drop_first xs i d (omega arith) ∙ ap (λ n. get_or xs i d ∷ drop n (x ∷ xs)) e

drop_all : (xs : List (Bor Item)) (i : ℕ) → length xs ≤ i → drop i xs ≡ []
drop_all [] zero l = refl
drop_all [] (suc i) l = refl
drop_all (x ∷ xs) zero l = absurd (omega arith)
drop_all (x ∷ xs) (suc i) l = drop_all xs i (omega arith)

-- the next item is the first that is left
pub next_left : (rows whole : Forest Row) (xs : List (Bor Item)) (i : ℕ) (x : Bor Item) → i < length xs → x ≡ get_or xs i x
    → IsLeft rows (shared (drop i xs)) whole → IsLeft rows (x.now ∷ shared (drop (i + 1) xs)) whole
next_left rows whole xs i x l e h =
    subst (λ k. IsLeft rows k whole) (ap shared (drop_first xs i x l ∙ ap (λ (y : Bor Item). y ∷ drop (i + 1) xs) (sym e))) h

-- where none is left, all rows are there
pub none_left : (rows whole : Forest Row) (xs : List (Bor Item)) (i : ℕ) → length xs ≤ i → IsLeft rows (shared (drop i xs)) whole → rows ≡ whole
none_left rows whole xs i l h = let e = ap shared (drop_all xs i l) in (subst (λ k. IsLeft rows k whole) e h).makes

-- the root is put in first
pub first_left : (root bus : List ℕ) (items : List Item) (all others : List (Bor Item)) (x : Bor Item) (rows : Forest Row) (row : Row)
    → shared all ≡ reached_items root bus items → all ≡ x ∷ others → row ≡ fresh x.now → rows ≡ tree row nil nil
    → IsLeft rows (shared (drop 0 others)) (load root bus items)
first_left root bus items all others x rows row s e f r =
    subst (λ (v : Forest Row). IsLeft v (shared others) (load root bus items)) (sym (r ∙ ap (λ (w : Row). tree w nil nil) f))
    (begin_load root bus items x.now (shared others) (sym s ∙ ap shared e))

-- where nothing is reached there is no row
pub no_rows : (root bus : List ℕ) (items : List Item) (all : List (Bor Item)) → shared all ≡ reached_items root bus items → all ≡ [] → nil ≡ load root bus items
no_rows root bus items all s e = sym (empty_load root bus items (sym s ∙ ap shared e))
