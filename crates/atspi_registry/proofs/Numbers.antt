-- What is not above a limit is at most it.
use Rattle.std.proofs.Common.{ℕ, ◌<◌, ◌≤◌, ◌⊎◌, inl, inr, arith}
use Rattle.std.proofs.lemmas.Bool.{cases_lt}

pub not_above : (limit n : ℕ) → (limit < n → ⊥) → n ≤ limit
not_above limit n h = elim (cases_lt limit n) [
  | inl lt ↦ absurd (h lt)
  | inr ge ↦ ge
]
