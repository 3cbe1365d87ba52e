-- Tables whose keys are numbers: how many entries they have, and which keys.
use Rattle.std.proofs.Common.{◌≡◌, ◌≢◌, ℕ, ◌<◌, ◌≤◌, Bool, true, false, cond, eqb, ◌||◌, List, [], ◌∷◌, length, None, Some, refl, sym, ap, ◌∙◌, subst, inl, inr, arith}
use Rattle.std.specs.Prelude.{IsSome}
use Rattle.std.specs.Ordering.{nat_cmp, is_eq}
use Rattle.std.specs.Cmp.{nat_cmp_total, eq_by_cmp_equiv}
use Rattle.std.specs.declared.cmp.Ordering.{Ordering}
use Rattle.std.specs.declared.cmp.Ordering.TheVariants.{Less, Equal, Greater}
use Rattle.std.specs.List.{AllByRecursion, list_any}
use Rattle.std.specs.List.Sorted.{IsStrictlySortedBy}
use Rattle.std.specs.Map.{keys_of, lookup}
use Rattle.std.specs.BTreeMap.{is_at}
use Rattle.std.specs.FinMap.{nat_cmp-IsAntisymmetric}
use Rattle.std.proofs.lemmas.Bool.{cases_eq}
use Rattle.std.proofs.lemmas.Bool.Decides.{nat_tests}
use Rattle.std.proofs.lemmas.Map.Keys.{IsDistinct-cons, IsDistinct-from_apart, below_from_sorted}
use Rattle.std.proofs.lemmas.Map.Steps.{length-le_from_distinct_below}

equal_of_tie : (r : Ordering) → is_eq r ≡ true → r ≡ Equal
equal_of_tie Less e = cc
equal_of_tie Equal e = refl
equal_of_tie Greater e = cc

-- a number ties with itself and with no other
pub ties : (k : ℕ) → is_at (nat_cmp k) k ≡ true
ties k = (eq_by_cmp_equiv nat_cmp_total).refl k

pub tied : (k q : ℕ) → is_at (nat_cmp k) q ≡ true → k ≡ q
tied k q e = nat_cmp-IsAntisymmetric k q (equal_of_tie _ e)

pub ties_not : (k q : ℕ) → k ≢ q → is_at (nat_cmp k) q ≡ false
ties_not k q ne = by (is_at (nat_cmp k) q) refl
  where
    by : (b : Bool) → is_at (nat_cmp k) q ≡ b → b ≡ false
    by true e = absurd (ne (tied k q e))
    by false e = refl

differ : (a b : ℕ) → a ≢ b → eqb a b ≡ false
differ a b ne = grind (arith, nat_tests)

same : (a b : ℕ) → eqb a b ≡ true → a ≡ b
same a b e = grind (arith, nat_tests)

-- a key that is not found is none of the keys
absent : {X : Type 0} (k : ℕ) (es : List (ℕ × X)) → lookup (is_at (nat_cmp k)) es ≡ None → AllByRecursion (λ y. eqb k y ≡ false) (keys_of es)
absent k [] h = tt
absent {X = X} k (e ∷ es) h =
    elim (cases_eq k e.0) [
      | inl is ↦ absurd (some_none e.1 (sym (ap (λ b. cond b (Some e.1) (lookup (is_at (nat_cmp k)) es)) (ap (is_at (nat_cmp k)) (sym is) ∙ ties k)) ∙ h))
      | inr ne ↦ (differ k e.0 ne, absent k es (sym (ap (λ b. cond b (Some e.1) (lookup (is_at (nat_cmp k)) es)) (ties_not k e.0 ne)) ∙ h))
    ]
  where
    some_none : (x : X) → Some x ≡ None → ⊥
    some_none x e = cc

-- a number among the keys is found
found : {X : Type 0} (k : ℕ) (es : List (ℕ × X)) → list_any (eqb k) (keys_of es) ≡ true → IsSome (lookup (is_at (nat_cmp k)) es)
found k [] h = absurd cc
found {X = X} k (e ∷ es) h =
    elim (cases_eq k e.0) [
      | inl is ↦ subst IsSome (sym (ap (λ b. cond b (Some e.1) (lookup (is_at (nat_cmp k)) es)) (ap (is_at (nat_cmp k)) (sym is) ∙ ties k))) (some e.1)
      | inr ne ↦ subst IsSome (sym (ap (λ b. cond b (Some e.1) (lookup (is_at (nat_cmp k)) es)) (ties_not k e.0 ne))) (found k es (sym (ap (λ b. b || list_any (eqb k) (keys_of es)) (differ k e.0 ne)) ∙ h))
    ]
  where
    some : (x : X) → IsSome (Some x)
    some x = refl

module _ {X : Type 0} (n k : ℕ) (es : List (ℕ × X)) where
  below : ((q : ℕ) → IsSome (lookup (is_at (nat_cmp q)) es) → q < n) → k < n → (q : ℕ) → list_any (eqb q) (k ∷ keys_of es) ≡ true → q < n
  below small lt q h = by (eqb q k) refl h
    where
      by : (b : Bool) → eqb q k ≡ b → (b || list_any (eqb q) (keys_of es)) ≡ true → q < n
      by true e h = let is : q ≡ k = same q k e in omega arith
      by false e h = small q (found q es h)

  -- a table that has room for one number more below n has fewer than n
  pub fewer : IsStrictlySortedBy nat_cmp (keys_of es) → ((q : ℕ) → IsSome (lookup (is_at (nat_cmp q)) es) → q < n) → k < n → lookup (is_at (nat_cmp k)) es ≡ None → length (k ∷ keys_of es) ≤ n
  fewer sorted small lt none =
      length-le_from_distinct_below (k ∷ keys_of es) n
      (IsDistinct-cons eqb k (keys_of es) (absent k es none) (IsDistinct-from_apart eqb (keys_of es) (λ i j d before within.
      let lt : _ = below_from_sorted (keys_of es) i j d sorted before within in grind (arith, nat_tests))))
      (below small lt)

pub length-keys : {X : Type 0} (es : List (ℕ × X)) → length (keys_of es) ≡ length es
length-keys [] = refl
length-keys (e ∷ es) = omega (arith, length-keys es)
