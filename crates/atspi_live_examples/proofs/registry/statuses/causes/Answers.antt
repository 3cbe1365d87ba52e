use Rattle.std.proofs.Common.{◌≡◌, ℕ, refl, inl, inr, arith, lit<, lit≤}
use Rattle.std.specs.Prelude.{◌⊎◌, ◌≤◌}
use Rattle.atspi_base.specs.Outside.{Rose}
use Rattle.atspi_live_examples.proofs.registry.statuses.causes.Goals as goal

still : (n : ℕ) → n ≤ 1000 → Rose n n → ⊥
still n small (inl less) = omega (arith, less)
still n small (inr last) = omega (arith, last, small)

one_of : (◌≡◌ {A = ℕ} 0 7) ⊎ ((◌≡◌ {A = ℕ} 1 0) × (◌≡◌ {A = ℕ} 3 3)) → ⊥
one_of (inl e) = omega (arith, e)
one_of (inr e) = omega (arith, e.0)

other_of : (◌≡◌ {A = ℕ} 0 7) ⊎ ((◌≡◌ {A = ℕ} 0 0) × (◌≡◌ {A = ℕ} 4 3)) → ⊥
other_of (inl e) = omega (arith, e)
other_of (inr e) = omega (arith, e.1)

pub returns-clause-host : goal.returns-clause-host
returns-clause-host c = record { by_host = λ e. inl (inl (lit< tt)); no_host = inl refl; by_sink = λ e. absurd (omega (arith, e)); no_sink = inr refl }

pub returns-clause-link : goal.returns-clause-link
returns-clause-link c = record { by_host = λ e. inr (inl (lit< tt)); no_host = inl refl; by_sink = λ e. absurd (omega (arith, e)); no_sink = inr refl }

pub returns-clause-sink : goal.returns-clause-sink
returns-clause-sink c = record { by_host = λ e. absurd (omega (arith, e)); no_host = inr (refl, refl); by_sink = λ e. inl (lit< tt); no_sink = inl refl }

pub returns-clause-none : goal.returns-clause-none
returns-clause-none c = record { by_host = λ e. absurd (omega (arith, e)); no_host = inr (refl, refl); by_sink = λ e. absurd (omega (arith, e)); no_sink = inr refl }

pub returns-clause-no_cause : goal.returns-clause-no_cause
returns-clause-no_cause c s = by (s.by_host refl)
  where
    by : Rose 0 0 ⊎ Rose 3 3 → ⊥
    by (inl rose) = still 0 (lit≤ tt) rose
    by (inr rose) = still 3 (lit≤ tt) rose

pub returns-clause-no_cause_of_sink : goal.returns-clause-no_cause_of_sink
returns-clause-no_cause_of_sink c s = still 5 (lit≤ tt) (s.by_sink refl)

pub returns-clause-host_hidden : goal.returns-clause-host_hidden
returns-clause-host_hidden c s = one_of (s.no_host)

pub returns-clause-link_hidden : goal.returns-clause-link_hidden
returns-clause-link_hidden c s = other_of (s.no_host)

pub returns-clause-sink_hidden : goal.returns-clause-sink_hidden
returns-clause-sink_hidden c s = by s.no_sink
  where
    by : (◌≡◌ {A = ℕ} 0 4) ⊎ (◌≡◌ {A = ℕ} 6 5) → ⊥
    by (inl e) = omega (arith, e)
    by (inr e) = omega (arith, e)

pub returns-clause-sink_for_host : goal.returns-clause-sink_for_host
returns-clause-sink_for_host c s = by s.no_sink
  where
    by : (◌≡◌ {A = ℕ} 7 4) ⊎ (◌≡◌ {A = ℕ} 6 5) → ⊥
    by (inl e) = omega (arith, e)
    by (inr e) = omega (arith, e)

pub returns-clause-host_for_sink : goal.returns-clause-host_for_sink
returns-clause-host_for_sink c s = by s.no_host
  where
    by : (◌≡◌ {A = ℕ} 4 7) ⊎ ((◌≡◌ {A = ℕ} 1 0) × (◌≡◌ {A = ℕ} 3 3)) → ⊥
    by (inl e) = omega (arith, e)
    by (inr e) = omega (arith, e.0)
