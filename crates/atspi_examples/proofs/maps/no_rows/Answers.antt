use Rattle.std.proofs.Common.{◌≡◌, ℕ, zero, suc, ◌+◌, ◌≤◌, ◌<◌, ◌==◌, Bool, true, false, cond, List, [], ◌∷◌, length, refl, arith}
use Rattle.std.specs.Prelude.{IsSome, nat_lt}
use Rattle.std.proofs.lemmas.Bool.{eqb-true, lt-ltb, ltb-true, ltb-false}
use Rattle.atspi_tree_model.specs.Map.{times}
use Rattle.atspi_examples.specs.Room.{bare}
use Rattle.atspi_examples.specs.Maps.{crowd}
use Rattle.atspi_examples.proofs.maps.no_rows.Goals as goal

pub returns-clause-own_number : goal.returns-clause-own_number
returns-clause-own_number c = λ t. let k : 3 ≡ 1 = t.own_number 1 (bare 3 0) refl in absurd (omega (arith, k))

-- how many numbers of a list are below a bound
small : ℕ → List ℕ → ℕ
small k [] = 0
small k (x ∷ xs) = cond (nat_lt x k) 1 0 + small k xs

small_few : (k : ℕ) (xs : List ℕ) → small k xs ≤ length xs
unfolding small
small_few k [] = omega arith
small_few k (x ∷ xs) = at (nat_lt x k) (small_few k xs)
  where
    at : (b : Bool) → small k xs ≤ length xs → cond b 1 0 + small k xs ≤ suc (length xs)
    at true h = omega arith
    at false h = omega arith

small_more : (k : ℕ) (xs : List ℕ) → small k xs + times k xs ≤ small (suc k) xs
unfolding small
small_more k [] = omega arith
small_more k (x ∷ xs) = at (nat_lt x k) refl (x == k) refl (nat_lt x (suc k)) refl (small_more k xs)
  where
    at : (b : Bool) → nat_lt x k ≡ b → (d : Bool) → (x == k) ≡ d → (e : Bool) → nat_lt x (suc k) ≡ e
        → small k xs + times k xs ≤ small (suc k) xs
        → cond b 1 0 + small k xs + (cond d 1 0 + times k xs) ≤ cond e 1 0 + small (suc k) xs
    at true p true q e r h = let u = ltb-true x k p in let v : x ≡ k = eqb-true x k q in absurd (omega arith)
    at true p false q true r h = omega arith
    at true p false q false r h = let u = ltb-true x k p in let v = ltb-false x (suc k) r in absurd (omega arith)
    at false p true q true r h = omega arith
    at false p true q false r h = let u : x ≡ k = eqb-true x k q in let v = ltb-false x (suc k) r in absurd (omega arith)
    at false p false q true r h = omega arith
    at false p false q false r h = omega arith

-- a list that has each number below a bound is as long
all_there : (k : ℕ) (xs : List ℕ) → ((m : ℕ) → m < k → 1 ≤ times m xs) → k ≤ small k xs
all_there zero xs h = omega arith
all_there (suc k) xs h =
    let a = all_there k xs (λ m l. h m (omega arith)) in
    let b = small_more k xs in
    let d = h k (omega arith) in
    omega arith

pub returns-clause-many : goal.returns-clause-many
returns-clause-many c = λ children t.
    let f = t.few in
    let a = all_there 8193 f.0 (λ m l. f.2 m (there m l)) in
    let b = small_few 8193 f.0 in
    let d = f.1 in
    absurd (omega arith)
  where
    there : (m : ℕ) → m < 8193 → IsSome (crowd m)
    there m l = rw (lt-ltb m 8193 l) refl

pub returns-clause-limits : goal.returns-clause-limits
returns-clause-limits c = λ x e t. let k = (t.lawful 1 _ refl).0.name in absurd (omega (arith, e, k))

pub returns-clause-targets : goal.returns-clause-targets
returns-clause-targets c = λ t. let h = (t.targets 1 _ refl).0 in cc
