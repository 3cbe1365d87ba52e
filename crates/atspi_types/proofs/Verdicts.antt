-- What it means that a test says no.
use Rattle.std.proofs.Common.{◌≡◌, ◌↔◌, IsTrue, true, false}

pub apart : false ≡ true → ⊥
apart e = cc

pub no_if : (P : Type 0) → (P → ⊥) → (IsTrue false ↔ P)
no_if P never = (λ e. absurd (apart e), λ p. absurd (never p))

pub not_if : (P : Type 0) → (IsTrue false ↔ P) → P → ⊥
not_if P says p = apart (says.1 p)
