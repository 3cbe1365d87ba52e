-- The last of a list of numbers, taken off.
use Rattle.std.proofs.Common.{◌≡◌, ◌==◌, ℕ, ◌+◌, ◌-◌, ◌≤◌, ◌<◌, Bool, true, false, cond, not, Option, Some, None, List, [], ◌∷◌, ◌++◌, length, refl, sym, ap, ◌∙◌, subst, arith}
use Rattle.std.specs.List.{slice_get}
use Rattle.std.specs.Prelude.{IsSome}
use Rattle.std.specs.Option.{option_to_list}
use Rattle.std.proofs.lemmas.Bool.{eq-eqb}
use Rattle.atspi_tree_model.specs.Map.{times}
use Rattle.atspi_tree.specs.Table.{all_but}

-- a list that has a last element is not empty
pub not_empty : (xs : List ℕ) (n : ℕ) → slice_get xs (length xs - 1) ≡ Some n → 0 < length xs
not_empty [] n e = cc
not_empty (x ∷ xs) n e = omega arith

end_at : (ys : List ℕ) (x : ℕ) → slice_get (ys ++ x ∷ []) (length ys) ≡ Some x
end_at [] x = refl
end_at (y ∷ ys) x = end_at ys x

length-end : (ys : List ℕ) (x : ℕ) → length (ys ++ x ∷ []) ≡ length ys + 1
length-end [] x = refl
length-end (y ∷ ys) x = let e = length-end ys x in omega arith

last_of : (ys : List ℕ) (x n : ℕ) → slice_get (ys ++ x ∷ []) (length (ys ++ x ∷ []) - 1) ≡ Some n → x ≡ n
last_of ys x n e =
    let l : length (ys ++ x ∷ []) - 1 ≡ length ys = (let k = length-end ys x in omega arith) in
    let z : Some x ≡ Some n = sym (end_at ys x) ∙ subst (λ i. slice_get (ys ++ x ∷ []) i ≡ Some n) l e in
    cc

times_end : (n x : ℕ) (ys : List ℕ) → x ≡ n → 1 ≤ times n (ys ++ x ∷ [])
times_end n x [] e = rw (eq-eqb x n e) (omega arith)
times_end n x (y ∷ ys) e = let l = times_end n x ys e in omega arith

left : (n x : ℕ) (ys : List ℕ) → x ≡ n → times n (ys ++ x ∷ []) ≤ 1 → ys ≡ all_but n (ys ++ x ∷ [])
left n x [] e l = rw (eq-eqb x n e) refl
left n x (y ∷ ys) e l = at (y == n) l (left n x ys e)
  where
    at : (b : Bool) → cond b 1 0 + times n (ys ++ x ∷ []) ≤ 1 → (times n (ys ++ x ∷ []) ≤ 1 → ys ≡ all_but n (ys ++ x ∷ []))
        → y ∷ ys ≡ cond (not b) (y ∷ all_but n (ys ++ x ∷ [])) (all_but n (ys ++ x ∷ []))
    at true k ir = let m = times_end n x ys e in absurd (omega arith)
    at false k ir = ap (λ l. y ∷ l) (ir (omega arith))

-- where the last was the number, and stood there once, the rest is all but it
pub popped : (xs ys : List ℕ) (x n : ℕ) → xs ≡ ys ++ x ∷ [] → slice_get xs (length xs - 1) ≡ Some n → times n xs ≤ 1 → ys ≡ all_but n xs
popped xs ys x n is last once =
    subst (λ l. ys ≡ all_but n l) (sym is)
    (left n x ys (last_of ys x n (subst (λ l. slice_get l (length l - 1) ≡ Some n) is last)) (subst (λ l. times n l ≤ 1) is once))

pub popped_off : (xs ys : List ℕ) (o : Option ℕ) (n : ℕ) → xs ≡ ys ++ option_to_list o → IsSome o → slice_get xs (length xs - 1) ≡ Some n → times n xs ≤ 1 → ys ≡ all_but n xs
popped_off xs ys None n is some last once = absurd cc
popped_off xs ys (Some x) n is some last once = popped xs ys x n is last once
