use Rattle.std.proofs.Common.{◌≡◌, ◌<◌, ◌⊎◌, ℕ, refl, inl, inr, arith, lit<, lit≤}
use Rattle.atspi_live_app.proofs.examples.runs.runs_reported.Goals as goal

pub returns-clause-refused : goal.returns-clause-refused
returns-clause-refused c = inl (refl, refl)

pub returns-clause-refused_other : goal.returns-clause-refused_other
returns-clause-refused_other c (inl h) = omega (arith, h.0)
returns-clause-refused_other c (inr h) = by h.0
  where
    by : (◌≡◌ {A = ℕ} 13 4) ⊎ (◌≡◌ {A = ℕ} 13 5) → ⊥
    by (inl h) = omega (arith, h)
    by (inr h) = omega (arith, h)

pub returns-clause-spent : goal.returns-clause-spent
returns-clause-spent c = (refl, refl)

pub returns-clause-spent_other : goal.returns-clause-spent_other
returns-clause-spent_other c h = omega (arith, h.0)

pub returns-clause-wanting : goal.returns-clause-wanting
returns-clause-wanting c = (refl, refl)

pub returns-clause-wanting_other : goal.returns-clause-wanting_other
returns-clause-wanting_other c h = omega (arith, h.0)

pub returns-clause-ended : goal.returns-clause-ended
returns-clause-ended c = (refl, refl)

pub returns-clause-ended_other : goal.returns-clause-ended_other
returns-clause-ended_other c h = omega (arith, h.0)

pub returns-clause-blamed : goal.returns-clause-blamed
returns-clause-blamed c = (lit≤ tt, inl (lit< tt))

rose : (3 < 3) ⊎ (◌≡◌ {A = ℕ} 3 18446744073709551615) → ⊥
rose (inl h) = omega (arith, h)
rose (inr h) = omega (arith, h)

pub returns-clause-not_blamed : goal.returns-clause-not_blamed
returns-clause-not_blamed c h = rose h.1

pub returns-clause-stopped : goal.returns-clause-stopped
returns-clause-stopped c = refl

pub returns-clause-stopped_blamed : goal.returns-clause-stopped_blamed
returns-clause-stopped_blamed c h = omega (arith, h)
