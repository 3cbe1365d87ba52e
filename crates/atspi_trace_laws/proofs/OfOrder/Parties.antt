-- Parties and ends: what a search by party finds, and small facts that every proof here uses.
use Rattle.std.proofs.Common.{◌≡◌, ℕ, Bool, true, false, T, not, List, [], ◌∷◌, ◌++◌, None, Some, refl, ap, subst, is_some}
use Rattle.std.specs.Prelude.{position, slice_get, unwrap_or, get_or}
use Rattle.std.specs.List.{AllByRecursion}
use Rattle.std.proofs.lemmas.Bool.{eqb-true, eq-eqb}
use Rattle.std.proofs.lemmas.List.Quantifiers.{position-Some}
use Rattle.std.proofs.lemmas.Option.{slice_get-get_or}
use Rattle.atspi_script_lines.specs.declared.line.Party.{Party}
use Rattle.atspi_script_lines.specs.declared.line.Party.TheVariants.{Bus as The_bus, Registry, App, Reader}
use Rattle.atspi_trace.specs.Ends.{same_party}

pub no_none : {A : Type 0} (x : A) → None ≡ Some x → ⊥
no_none x e = subst (λ o. T (not (is_some o))) e tt

pub same_some : {A : Type 0} (x y : A) → Some x ≡ Some y → x ≡ y
same_some x y e = ap (λ o. unwrap_or o x) e

pub false_true : false ≡ true → ⊥
false_true e = subst (λ b. T (not b)) e tt

-- the party itself and no other
pub same-party : (p q : Party) → same_party p q ≡ true → p ≡ q
same-party The_bus The_bus e = refl
same-party Registry Registry e = refl
same-party (App a) (App b) e = ap App (eqb-true a b e)
same-party (Reader a) (Reader b) e = ap Reader (eqb-true a b e)
same-party p q e = absurd (false_true e)

pub party-same : (p : Party) → same_party p p ≡ true
party-same The_bus = refl
party-same Registry = refl
party-same (App a) = eq-eqb a a refl
party-same (Reader a) = eq-eqb a a refl

-- what stands at the first place that passes
pub found : {X : Type 0} (p : X → Bool) (xs : List X) (k : ℕ) → position p xs ≡ Some k → (x : X) × (slice_get xs k ≡ Some x) × (p x ≡ true)
found p [] k h = absurd (no_none k h)
found p (x ∷ xs) k h =
    let at = position-Some p (x ∷ xs) k x h in
    (get_or (x ∷ xs) k x, slice_get-get_or (x ∷ xs) k x at.0, at.1)

pub all_append : {X : Type 0} (P : X → Type 0) (xs ys : List X) → AllByRecursion P xs → AllByRecursion P ys → AllByRecursion P (xs ++ ys)
all_append P [] ys a b = b
all_append P (x ∷ xs) ys a b = (a.0, all_append P xs ys a.1 b)

pub all_front : {X : Type 0} (P : X → Type 0) (xs ys : List X) → AllByRecursion P (xs ++ ys) → AllByRecursion P xs
all_front P [] ys a = tt
all_front P (x ∷ xs) ys a = (a.0, all_front P xs ys a.1)

pub all_back : {X : Type 0} (P : X → Type 0) (xs ys : List X) → AllByRecursion P (xs ++ ys) → AllByRecursion P ys
all_back P [] ys a = a
all_back P (x ∷ xs) ys a = all_back P xs ys a.1
