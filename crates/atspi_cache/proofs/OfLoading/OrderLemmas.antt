-- What a stable sort by index makes of a list of borrowed items.
use Rattle.std.proofs.Common.{◌≡◌, ℕ, suc, ◌+◌, ◌<◌, Bool, true, false, cond, not, List, [], ◌∷◌, length, get_or, refl, sym, ap, ◌∙◌, subst, arith, add-one}
use Rattle.std.specs.Prelude.{ℤ, pos, negsuc, ◌&&◌, nat_le, nat_lt, int_lt, filter}
use Rattle.std.specs.Ordering.{int_cmp, is_lt}
use Rattle.std.specs.declared.cmp.Ordering.TheVariants.{Less, Equal, Greater}
use Rattle.std.specs.List.Sorted.{IsSortedByKey, IsStableByKey}
use Rattle.std.proofs.lemmas.Bool.{leb-true, leb-false, le-ltb, lt-ltb}
use denote.Ref.{Bor}
use Rattle.atspi_tree_model.specs.declared.news.Item.{Item}
use Rattle.atspi_tree_model.specs.News.{at_most, by_index}
use Rattle.atspi_cache.specs.loading.Shared.{shared}
use Rattle.atspi_cache.proofs.OfLoading.RisingLemmas.{is_tie, is_by_index}
use Rattle.atspi_cache.proofs.OfLoading.SharedLemmas.{filter-shared, StepsRise, rising_from}

-- the key of the sort
abbrev pub index_of : Bor Item → ℤ
index_of item = item.now.index

flip : (i j : ℕ) → nat_lt i j ≡ not (nat_le j i)
flip i j = at (nat_le j i) refl
  where
    at : (b : Bool) → nat_le j i ≡ b → nat_lt i j ≡ not b
    at true e = le-ltb i j (leb-true j i e)
    at false e = lt-ltb i j (let l = leb-false j i e in omega arith)

less : (i j : ℤ) → int_lt i j ≡ not (at_most j i)
less (pos i) (pos j) = flip i j
less (pos i) (negsuc j) = refl
less (negsuc i) (pos j) = refl
less (negsuc i) (negsuc j) = flip j i

tested : (i j : ℤ) → is_lt (int_cmp i j) ≡ not (at_most j i)
tested i j = at (int_lt i j) (int_lt j i) ∙ less i j
  where
    at : (a b : Bool) → is_lt (cond a Less (cond b Greater Equal)) ≡ a
    at true b = refl
    at false true = refl
    at false false = refl

rises : (b : Bool) → not b ≡ false → b ≡ true
rises true e = refl
rises false e = cc

tied : (x y : Bor Item) → (not (is_lt (int_cmp (index_of x) (index_of y))) && not (is_lt (int_cmp (index_of y) (index_of x)))) ≡ is_tie x.now y.now
tied x y =
    ap (λ b. not b && not (is_lt (int_cmp (index_of y) (index_of x)))) (tested (index_of x) (index_of y))
    ∙ ap (λ b. not (not (at_most (index_of y) (index_of x))) && not b) (tested (index_of y) (index_of x))
    ∙ at (at_most (index_of x) (index_of y)) (at_most (index_of y) (index_of x))
  where
    at : (a b : Bool) → (not (not b) && not (not a)) ≡ cond a b false
    at true true = refl
    at true false = refl
    at false true = refl
    at false false = refl

filter-same : (p q : Bor Item → Bool) → ((y : Bor Item) → p y ≡ q y) → (ys : List (Bor Item)) → filter p ys ≡ filter q ys
filter-same p q e [] = refl
filter-same p q e (y ∷ ys) = ap (λ b. cond b (y ∷ filter p ys) (filter p ys)) (e y) ∙ ap (λ l. cond (q y) (y ∷ l) l) (filter-same p q e ys)

abbrev as_bor : Item → Bor Item
as_bor z = record { ref_ptr = (0, 0); now = z }

steps : (xs : List (Bor Item)) → IsSortedByKey index_of int_cmp xs → StepsRise xs
steps xs up k d l =
    let m : k + 1 < length xs = omega arith in
    let h : is_lt (int_cmp (index_of (get_or xs (k + 1) d)) (index_of (get_or xs k d))) ≡ false = up k d (omega arith) m in
    let n : is_lt (int_cmp (index_of (get_or xs (suc k) d)) (index_of (get_or xs k d))) ≡ false =
    subst (λ i. is_lt (int_cmp (index_of (get_or xs i d)) (index_of (get_or xs k d))) ≡ false) (add-one k) h in
    rises (at_most (index_of (get_or xs k d)) (index_of (get_or xs (suc k) d)))
    (sym (tested (index_of (get_or xs (suc k) d)) (index_of (get_or xs k d))) ∙ n)

-- a list that was sorted stably by index is that one by index
pub sorted_is_by_index : (xs ys : List (Bor Item)) → IsSortedByKey index_of int_cmp ys → IsStableByKey index_of int_cmp xs ys
    → shared ys ≡ by_index (shared xs)
sorted_is_by_index xs ys up stable =
    is_by_index (shared xs) (shared ys) (rising_from ys (steps ys up))
    (λ z. sym (filter-shared (is_tie z) ys) ∙ ap shared (sym (filter-same _ (λ (b : Bor Item). is_tie z b.now) (tied (as_bor z)) ys) ∙ stable (as_bor z) ∙ filter-same _ (λ (b : Bor Item). is_tie z b.now) (tied (as_bor z)) xs) ∙ filter-shared (is_tie z) xs)
