-- Tests of all elements, part by part.
use Rattle.std.proofs.Common.{◌≡◌, ℕ, ◌+◌, ◌-◌, ◌≤◌, Bool, true, false, List, take, drop, take-add, refl, sym, ap, ◌∙◌, arith}
use Rattle.std.specs.Prelude.{◌&&◌}
use Rattle.std.specs.List.{list_all}
use Rattle.std.proofs.lemmas.List.{take-append-drop}
use Rattle.std.proofs.lemmas.List.Folds.{list_all-append}

both_true : (a b : Bool) → (a && b) ≡ true → (a ≡ true) × (b ≡ true)
both_true true true h = (refl, refl)
both_true true false h = absurd cc
both_true false b h = absurd cc

left_false : (a b : Bool) → a ≡ false → (a && b) ≡ false
left_false false b h = refl
left_false true b h = absurd cc

right_false : (a b : Bool) → b ≡ false → (a && b) ≡ false
right_false false b h = refl
right_false true false h = refl
right_false true true h = absurd cc

split : {X : Type 0} (p : X → Bool) (n : ℕ) (xs : List X) → list_all p xs ≡ (list_all p (take n xs) && list_all p (drop n xs))
split p n xs = ap (list_all p) (sym (take-append-drop n xs)) ∙ list_all-append p (take n xs) (drop n xs)

pub part_fails : {X : Type 0} (p : X → Bool) (a n : ℕ) (xs : List X) → list_all p (take n (drop a xs)) ≡ false → list_all p xs ≡ false
part_fails p a n xs h =
    let back = split p n (drop a xs) ∙ left_false (list_all p (take n (drop a xs))) (list_all p (drop n (drop a xs))) h in
    split p a xs ∙ right_false (list_all p (take a xs)) (list_all p (drop a xs)) back

joined : {X : Type 0} (p : X → Bool) (n m : ℕ) (xs : List X) → list_all p (take (n + m) xs) ≡ (list_all p (take n xs) && list_all p (take m (drop n xs)))
joined p n m xs = ap (list_all p) (take-add n m xs) ∙ list_all-append p (take n xs) (take m (drop n xs))

pub goes_on : {X : Type 0} (p : X → Bool) (n m : ℕ) (xs : List X) → list_all p (take n xs) ≡ true → list_all p (take m (drop n xs)) ≡ true → list_all p (take (n + m) xs) ≡ true
goes_on p n m xs h g = joined p n m xs ∙ rw (h, g) refl

pub back_decides : {X : Type 0} (p : X → Bool) (n m : ℕ) (xs : List X) → n ≤ m → list_all p (take m xs) ≡ true → list_all p xs ≡ list_all p (drop n xs)
back_decides p n m xs le h =
    let e : m ≡ n + (m - n) = omega (arith, le) in
    let whole = sym (joined p n (m - n) xs) ∙ (ap (λ (k : ℕ). list_all p (take k xs)) (sym e) ∙ h) in
    let front = (both_true (list_all p (take n xs)) (list_all p (take (m - n) (drop n xs))) whole).0 in
    split p n xs ∙ rw front refl
