use Rattle.std.proofs.Common.{◌≡◌, ℕ, refl, inl, inr, arith, lit<}
use Rattle.std.specs.Prelude.{◌⊎◌}
use Rattle.atspi_base.specs.Outside.{Rose}
use Rattle.atspi_live_examples.proofs.registry.statuses.sink_blamed.Goals as goal

pub returns-clause-failed : goal.returns-clause-failed
returns-clause-failed c = (λ e. inl (lit< tt), inl refl)

pub returns-clause-not_counted : goal.returns-clause-not_counted
returns-clause-not_counted c s = by (s.0 refl)
  where
    by : Rose 5 5 → ⊥
    by (inl less) = omega (arith, less)
    by (inr last) = omega (arith, last)

pub returns-clause-none : goal.returns-clause-none
returns-clause-none c = (λ e. absurd (omega (arith, e)), inr refl)

pub returns-clause-hidden : goal.returns-clause-hidden
returns-clause-hidden c s = by s.1
  where
    by : (◌≡◌ {A = ℕ} 0 4) ⊎ (◌≡◌ {A = ℕ} 6 5) → ⊥
    by (inl e) = omega (arith, e)
    by (inr e) = omega (arith, e)
