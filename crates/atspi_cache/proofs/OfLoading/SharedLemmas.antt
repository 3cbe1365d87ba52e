-- Lists of borrowed items: what is filtered, and what rises.
use Rattle.std.proofs.Common.{◌≡◌, ℕ, zero, suc, ◌+◌, ◌<◌, ◌≤◌, Bool, true, false, cond, List, [], ◌∷◌, length, get_or, refl, sym, ap, ◌∙◌, subst, arith, add-one}
use Rattle.std.specs.Prelude.{filter}
use Rattle.std.proofs.Common.{take, ◌++◌}
use mathlib.Core.List.{reverse, reverse_aux}
use Rattle.std.proofs.lemmas.List.{append-nil}
use Rattle.std.proofs.lemmas.Grind.{take_at_read}
use Rattle.std.proofs.lemmas.List.Elements.{filter-append}
use denote.Ref.{Bor}
use Rattle.atspi_tree_model.specs.declared.news.Item.{Item}
use Rattle.atspi_tree_model.specs.Row.{Each}
use Rattle.atspi_tree_model.specs.News.{at_most}
use Rattle.atspi_cache.specs.loading.Shared.{shared}
use Rattle.atspi_cache.proofs.OfLoading.RisingLemmas.{IsBefore, IsRising, at_most-trans, each_weaker}

pub filter-shared : (p : Item → Bool) (xs : List (Bor Item))
    → shared (filter (λ b. p b.now) xs) ≡ filter p (shared xs)
filter-shared p [] = refl
filter-shared p (x ∷ xs) = at (p x.now) (filter-shared p xs)
  where
    at : (b : Bool) → shared (filter (λ b. p b.now) xs) ≡ filter p (shared xs)
        → shared (cond b (x ∷ filter (λ b. p b.now) xs) (filter (λ b. p b.now) xs))
        ≡ cond b (x.now ∷ filter p (shared xs)) (filter p (shared xs))
    at true e = ap (λ l. x.now ∷ l) e
    at false e = e

-- where each item is before the next, each is before all behind it
abbrev pub StepsRise : List (Bor Item) → Type 0
StepsRise xs = (k : ℕ) (d : Bor Item) → suc k < length xs → IsBefore (get_or xs k d).now (get_or xs (suc k) d).now

pub rising_from : (xs : List (Bor Item)) → StepsRise xs → IsRising (shared xs)
rising_from [] h = tt
rising_from (x ∷ []) h = (tt, tt)
rising_from (x ∷ y ∷ ys) h =
    let behind : IsRising (shared (y ∷ ys)) = rising_from (y ∷ ys) (λ k d l. h (suc k) d (omega arith)) in
    let first : IsBefore x.now y.now = h 0 x (omega arith) in
    ((first, each_weaker (IsBefore y.now) (IsBefore x.now) (λ z f. at_most-trans x.now.index y.now.index z.index first f) (shared ys) behind.0), behind)

pub shared-snoc : (xs : List (Bor Item)) (x : Bor Item) → shared (xs ++ x ∷ []) ≡ shared xs ++ x.now ∷ []
shared-snoc [] x = refl
shared-snoc (y ∷ ys) x = ap (λ l. y.now ∷ l) (shared-snoc ys x)

pub take-snoc : {A : Type 0} (xs : List A) (i : ℕ) (x : A) → i < length xs → x ≡ get_or xs i x → take (i + 1) xs ≡ take i xs ++ x ∷ []
take-snoc xs i x l e = (take_at_read xs i x l).1 ∙ ap (λ y. take i xs ++ y ∷ []) (sym e)

-- a list that keeps what passes a test, after one more item
pub keeps : (p : Item → Bool) (xs : List (Bor Item)) (i : ℕ) (x : Bor Item) (kept new : List (Bor Item))
    → i < length xs → x ≡ get_or xs i x → shared kept ≡ filter p (shared (take i xs))
    → new ≡ cond (p x.now) (kept ++ x ∷ []) kept → shared new ≡ filter p (shared (take (i + 1) xs))
keeps p xs i x kept new l e h n =
    ap shared n ∙ at (p x.now) refl ∙ sym (ap (λ l. filter p (shared l)) (take-snoc xs i x l e) ∙ ap (filter p) (shared-snoc (take i xs) x) ∙ filter-append p (shared (take i xs)) (x.now ∷ []))
  where
    at : (b : Bool) → p x.now ≡ b → shared (cond b (kept ++ x ∷ []) kept) ≡ filter p (shared (take i xs)) ++ filter p (x.now ∷ [])
    at true f = rw f (shared-snoc kept x ∙ ap (λ l. l ++ x.now ∷ []) h)
    at false f = rw f (h ∙ sym (append-nil (filter p (shared (take i xs)))))

pub shared-append : (xs ys : List (Bor Item)) → shared (xs ++ ys) ≡ shared xs ++ shared ys
shared-append [] ys = refl
shared-append (x ∷ xs) ys = ap (λ l. x.now ∷ l) (shared-append xs ys)

shared-onto : (xs r : List (Bor Item)) → shared (reverse_aux xs r) ≡ reverse_aux (shared xs) (shared r)
shared-onto [] r = refl
shared-onto (x ∷ xs) r = shared-onto xs (x ∷ r)

pub shared-reverse : (xs : List (Bor Item)) → shared (reverse xs) ≡ reverse (shared xs)
shared-reverse xs = shared-onto xs []

filter-onto : (p : Item → Bool) (xs r : List Item) → filter p (reverse_aux xs r) ≡ reverse_aux (filter p xs) (filter p r)
filter-onto p [] r = refl
filter-onto p (x ∷ xs) r = filter-onto p xs (x ∷ r) ∙ at (p x)
  where
    at : (b : Bool) → reverse_aux (filter p xs) (cond b (x ∷ filter p r) (filter p r)) ≡ reverse_aux (cond b (x ∷ filter p xs) (filter p xs)) (filter p r)
    at true = refl
    at false = refl

pub filter-reverse : (p : Item → Bool) (xs : List Item) → filter p (reverse xs) ≡ reverse (filter p xs)
filter-reverse p xs = filter-onto p xs []
