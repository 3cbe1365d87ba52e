-- Numbers and keys from a bound on.
use Rattle.std.proofs.Common.{◌≡◌, ◌≤◌, ℕ, false, Option, None, Some, refl, arith}
use Rattle.std.specs.Prelude.{IsSome}
use Rattle.std.specs.Ordering.{nat_cmp, is_gt}
use Rattle.std.proofs.lemmas.Bool.Decides.{nat_tests}

pub not_above : (a b : ℕ) → a ≤ b → is_gt (nat_cmp a b) ≡ false
not_above a b h = grind (arith, nat_tests)

pub none_by : {X : Type 0} (o : Option X) → (IsSome o → ⊥) → o ≡ None
none_by None h = refl
none_by (Some x) h = absurd (h refl)
