-- A list in rising order of index, in which ties keep their order, is the definition's list.
use Rattle.std.proofs.Common.{◌≡◌, ℕ, ◌≤◌, ◌<◌, Bool, true, false, cond, List, [], ◌∷◌, refl, sym, ap, ◌∙◌, subst, arith}
use Rattle.std.specs.Prelude.{ℤ, pos, negsuc, nat_le, filter}
use Rattle.std.proofs.lemmas.Bool.{le-leb, leb-true, leb-false}
use Rattle.atspi_tree_model.specs.declared.news.Item.{Item}
use Rattle.atspi_tree_model.specs.Row.{Each}
use Rattle.atspi_tree_model.specs.News.{at_most, sorted_in, by_index}

pub at_most-refl : (i : ℤ) → at_most i i ≡ true
at_most-refl (pos i) = le-leb i i (omega arith)
at_most-refl (negsuc i) = le-leb i i (omega arith)

at_most-other : (i j : ℤ) → at_most i j ≡ false → at_most j i ≡ true
at_most-other (pos i) (pos j) e = let l = leb-false i j e in le-leb j i (omega arith)
at_most-other (pos i) (negsuc j) e = refl
at_most-other (negsuc i) (pos j) e = cc
at_most-other (negsuc i) (negsuc j) e = let l = leb-false j i e in le-leb i j (omega arith)

pub at_most-trans : (i j k : ℤ) → at_most i j ≡ true → at_most j k ≡ true → at_most i k ≡ true
at_most-trans (pos i) (pos j) (pos k) d e = let a = leb-true i j d in let b = leb-true j k e in le-leb i k (omega arith)
at_most-trans (pos i) (pos j) (negsuc k) d e = e
at_most-trans (pos i) (negsuc j) k d e = cc
at_most-trans (negsuc i) j (pos k) d e = refl
at_most-trans (negsuc i) (pos j) (negsuc k) d e = cc
at_most-trans (negsuc i) (negsuc j) (negsuc k) d e =
    let a = leb-true j i d in let b = leb-true k j e in le-leb k i (omega arith)

-- one item is not behind another
abbrev pub IsBefore : Item → Item → Type 0
IsBefore x y = at_most x.index y.index ≡ true

-- each item is before those behind it
abbrev pub IsRising : List Item → Type 0
IsRising [] = Unit {0}
IsRising (x ∷ xs) = Each (IsBefore x) xs × IsRising xs

-- two items have one index
abbrev pub is_tie : Item → Item → Bool
is_tie x y = cond (at_most x.index y.index) (at_most y.index x.index) false

pub each_weaker : (P Q : Item → Type 0) → ((x : Item) → P x → Q x) → (xs : List Item) → Each P xs → Each Q xs
each_weaker P Q w [] e = tt
each_weaker P Q w (x ∷ xs) e = (w x e.0, each_weaker P Q w xs e.1)

pub each_sorted_in : (P : Item → Type 0) (x : Item) (ys : List Item) → P x → Each P ys → Each P (sorted_in x ys)
each_sorted_in P x [] h e = (h, tt)
each_sorted_in P x (y ∷ ys) h e = at (at_most x.index y.index) (each_sorted_in P x ys h e.1)
  where
    at : (b : Bool) → Each P (sorted_in x ys) → Each P (cond b (x ∷ y ∷ ys) (y ∷ sorted_in x ys))
    at true k = (h, (e.0, e.1))
    at false k = (e.0, k)

rising_in : (x : Item) (ys : List Item) → IsRising ys → IsRising (sorted_in x ys)
rising_in x [] r = (tt, tt)
rising_in x (y ∷ ys) r = at (at_most x.index y.index) refl (rising_in x ys r.1)
  where
    at : (b : Bool) → at_most x.index y.index ≡ b → IsRising (sorted_in x ys) → IsRising (cond b (x ∷ y ∷ ys) (y ∷ sorted_in x ys))
    at true e k =
        ((e, each_weaker (IsBefore y) (IsBefore x) (λ z f. at_most-trans x.index y.index z.index e f) ys r.0), (r.0, r.1))
    at false e k = (each_sorted_in (IsBefore y) x ys (at_most-other x.index y.index e) r.0, k)

pub rising_by_index : (xs : List Item) → IsRising (by_index xs)
rising_by_index [] = tt
rising_by_index (x ∷ xs) = rising_in x (by_index xs) (rising_by_index xs)

both_ways : (x y : Item) → is_tie x y ≡ true → IsBefore x y × IsBefore y x
both_ways x y e = at (at_most x.index y.index) refl e
  where
    at : (b : Bool) → at_most x.index y.index ≡ b → cond b (at_most y.index x.index) false ≡ true → IsBefore x y × IsBefore y x
    at true f e = (f, e)
    at false f e = absurd cc

tie_of : (x y : Item) → IsBefore x y → IsBefore y x → is_tie x y ≡ true
tie_of x y f g = rw f g

-- two items that do not both pass a test may be exchanged
exchanged : (p : Item → Bool) (x y : Item) (xs : List Item) → (p x ≡ true → p y ≡ true → ⊥)
    → filter p (y ∷ x ∷ xs) ≡ filter p (x ∷ y ∷ xs)
exchanged p x y xs apart = at (p x) (p y) refl refl
  where
    at : (b c : Bool) → p x ≡ b → p y ≡ c
        → cond c (y ∷ cond b (x ∷ filter p xs) (filter p xs)) (cond b (x ∷ filter p xs) (filter p xs))
        ≡ cond b (x ∷ cond c (y ∷ filter p xs) (filter p xs)) (cond c (y ∷ filter p xs) (filter p xs))
    at true true e f = absurd (apart e f)
    at true false e f = refl
    at false true e f = refl
    at false false e f = refl

stable_in : (z x : Item) (ys : List Item) → filter (is_tie z) (sorted_in x ys) ≡ filter (is_tie z) (x ∷ ys)
stable_in z x [] = refl
stable_in z x (y ∷ ys) = at (at_most x.index y.index) refl (stable_in z x ys)
  where
    at : (b : Bool) → at_most x.index y.index ≡ b → filter (is_tie z) (sorted_in x ys) ≡ filter (is_tie z) (x ∷ ys)
        → filter (is_tie z) (cond b (x ∷ y ∷ ys) (y ∷ sorted_in x ys)) ≡ filter (is_tie z) (x ∷ y ∷ ys)
    at true e k = refl
    at false e k =
        ap (λ l. cond (is_tie z y) (y ∷ l) l) k
        ∙ exchanged (is_tie z) x y ys
        (λ f g.
        let before : at_most x.index y.index ≡ true =
        at_most-trans x.index z.index y.index (both_ways z x f).1 (both_ways z y g).0 in
        cc)

pub stable_by_index : (z : Item) (xs : List Item) → filter (is_tie z) (by_index xs) ≡ filter (is_tie z) xs
stable_by_index z [] = refl
stable_by_index z (x ∷ xs) =
    stable_in z x (by_index xs) ∙ ap (λ l. cond (is_tie z x) (x ∷ l) l) (stable_by_index z xs)

-- the first that passes has what each has
first_has : (P : Item → Type 0) (p : Item → Bool) (xs : List Item) (x : Item) (rest : List Item) → Each P xs
    → filter p xs ≡ x ∷ rest → P x
first_has P p [] x rest e h = absurd cc
first_has P p (y ∷ ys) x rest e h = at (p y) (first_has P p ys x rest e.1) h
  where
    at : (b : Bool) → (filter p ys ≡ x ∷ rest → P x) → cond b (y ∷ filter p ys) (filter p ys) ≡ x ∷ rest → P x
    at true ih h = let same : y ≡ x = cc in subst P same e.0
    at false ih h = ih h

tie-refl : (x : Item) → is_tie x x ≡ true
tie-refl x = tie_of x x (at_most-refl x.index) (at_most-refl x.index)

kept_first : (x : Item) (xs : List Item) → filter (is_tie x) (x ∷ xs) ≡ x ∷ filter (is_tie x) xs
kept_first x xs = ap (λ b. cond b (x ∷ filter (is_tie x) xs) (filter (is_tie x) xs)) (tie-refl x)

tails : (x : Item) (b : Bool) (xs ys : List Item) → cond b (x ∷ xs) xs ≡ cond b (x ∷ ys) ys → xs ≡ ys
tails x true xs ys e = cc
tails x false xs ys e = e

-- lists in rising order in which each tie has the same items are the same
pub unique : (xs ys : List Item) → IsRising xs → IsRising ys
    → ((z : Item) → filter (is_tie z) xs ≡ filter (is_tie z) ys) → xs ≡ ys
unique [] [] r s h = refl
unique [] (y ∷ ys) r s h = let k = h y ∙ kept_first y ys in absurd cc
unique (x ∷ xs) [] r s h = let k = sym (kept_first x xs) ∙ h x in absurd cc
unique (x ∷ xs) (y ∷ ys) r s h =
    let of_y : filter (is_tie x) (y ∷ ys) ≡ x ∷ filter (is_tie x) xs = sym (h x) ∙ kept_first x xs in
    let of_x : filter (is_tie y) (x ∷ xs) ≡ y ∷ filter (is_tie y) ys = h y ∙ kept_first y ys in
    let y_before : IsBefore y x =
    first_has (IsBefore y) (is_tie x) (y ∷ ys) x (filter (is_tie x) xs) (at_most-refl y.index, s.0) of_y in
    let x_before : IsBefore x y =
    first_has (IsBefore x) (is_tie y) (x ∷ xs) y (filter (is_tie y) ys) (at_most-refl x.index, r.0) of_x in
    let front : filter (is_tie x) (y ∷ ys) ≡ y ∷ filter (is_tie x) ys =
    ap (λ b. cond b (y ∷ filter (is_tie x) ys) (filter (is_tie x) ys)) (tie_of x y x_before y_before) in
    let both : y ∷ filter (is_tie x) ys ≡ x ∷ filter (is_tie x) xs = sym front ∙ of_y in
    let same : x ≡ y = cc in
    let behind : xs ≡ ys =
    unique xs ys r.1 s.1
    (λ z. tails x (is_tie z x) (filter (is_tie z) xs) (filter (is_tie z) ys)
    (h z ∙ ap (λ (w : Item). cond (is_tie z w) (w ∷ filter (is_tie z) ys) (filter (is_tie z) ys)) (sym same))) in
    ap (λ (w : Item). w ∷ xs) same ∙ ap (λ l. y ∷ l) behind

-- so a list in rising order, with the ties of another, is that one by index
pub is_by_index : (xs ys : List Item) → IsRising ys → ((z : Item) → filter (is_tie z) ys ≡ filter (is_tie z) xs)
    → ys ≡ by_index xs
is_by_index xs ys r h = unique ys (by_index xs) r (rising_by_index xs) (λ z. h z ∙ sym (stable_by_index z xs))

each_filter : (P : Item → Type 0) (p : Item → Bool) (xs : List Item) → Each P xs → Each P (filter p xs)
each_filter P p [] e = tt
each_filter P p (x ∷ xs) e = at (p x) (each_filter P p xs e.1)
  where
    at : (b : Bool) → Each P (filter p xs) → Each P (cond b (x ∷ filter p xs) (filter p xs))
    at true h = (e.0, h)
    at false h = h

rising_filter : (p : Item → Bool) (xs : List Item) → IsRising xs → IsRising (filter p xs)
rising_filter p [] r = tt
rising_filter p (x ∷ xs) r = at (p x) (rising_filter p xs r.1)
  where
    at : (b : Bool) → IsRising (filter p xs) → IsRising (cond b (x ∷ filter p xs) (filter p xs))
    at true h = (each_filter (IsBefore x) p xs r.0, h)
    at false h = h

pub filter-filter : (p q : Item → Bool) (xs : List Item) → filter p (filter q xs) ≡ filter q (filter p xs)
filter-filter p q [] = refl
filter-filter p q (x ∷ xs) = at (p x) (q x) refl refl (filter-filter p q xs)
  where
    at : (a b : Bool) → p x ≡ a → q x ≡ b → filter p (filter q xs) ≡ filter q (filter p xs)
        → filter p (cond b (x ∷ filter q xs) (filter q xs)) ≡ filter q (cond a (x ∷ filter p xs) (filter p xs))
    at true true e f h = rw (e, f) (ap (λ l. x ∷ l) h)
    at true false e f h = rw f h
    at false true e f h = rw e h
    at false false e f h = h

-- what passes a test keeps its order
pub filter-by_index : (p : Item → Bool) (xs : List Item) → filter p (by_index xs) ≡ by_index (filter p xs)
filter-by_index p xs =
    is_by_index (filter p xs) (filter p (by_index xs)) (rising_filter p (by_index xs) (rising_by_index xs))
    (λ z. filter-filter (is_tie z) p (by_index xs) ∙ ap (filter p) (stable_by_index z xs) ∙ filter-filter p (is_tie z) xs)
