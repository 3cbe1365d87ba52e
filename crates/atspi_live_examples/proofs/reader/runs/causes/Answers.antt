use Rattle.std.proofs.Common.{◌≡◌, ◌<◌, ◌⊎◌, ℕ, refl, inl, inr, arith, lit<}
use Rattle.atspi_base.specs.Outside.{Rose}
use Rattle.atspi_live_reader.specs.Following.{IsUntold}
use Rattle.atspi_live_examples.proofs.reader.runs.causes.Goals as goal

-- statuses that are others
other : {A : Type 0} {m n : ℕ} → (m ≡ n → ⊥) → m ≡ n → A
other differ is = absurd (differ is)

-- no count rises to itself, nor from 4 to 3
same : (n : ℕ) → n < 10 → Rose n n → ⊥
same n few (inl h) = omega (arith, h)
same n few (inr h) = omega (arith, few, h)

fell : Rose 4 3 → ⊥
fell (inl h) = omega (arith, h)
fell (inr h) = omega (arith, h)

pub returns-clause-none : goal.returns-clause-none
returns-clause-none c = record { by_host = other (λ h. omega (arith, h)); no_host = inr refl; no_link = inr (inr refl); by_sink = other (λ h. omega (arith, h)); no_sink = inr refl }

pub returns-clause-host : goal.returns-clause-host
returns-clause-host c = record { by_host = λ h. inl (inl (lit< tt)); no_host = inl refl; no_link = inl refl; by_sink = other (λ h. omega (arith, h)); no_sink = inr refl }

pub returns-clause-link : goal.returns-clause-link
returns-clause-link c = record { by_host = λ h. inr (inl (lit< tt)); no_host = inr refl; no_link = inl refl; by_sink = other (λ h. omega (arith, h)); no_sink = inr refl }

pub returns-clause-nobody : goal.returns-clause-nobody
returns-clause-nobody c h = by (h.by_host refl)
  where
    by : Rose 3 3 ⊎ Rose 4 4 → ⊥
    by (inl r) = same 3 (lit< tt) r
    by (inr r) = same 4 (lit< tt) r

pub returns-clause-host_other : goal.returns-clause-host_other
returns-clause-host_other c h = by h.no_host
  where
    by : (◌≡◌ {A = ℕ} 8 7) ⊎ (◌≡◌ {A = ℕ} 4 3) → ⊥
    by (inl h) = omega (arith, h)
    by (inr h) = omega (arith, h)

pub returns-clause-host_untold : goal.returns-clause-host_untold
returns-clause-host_untold c h = by h.no_host
  where
    by : (◌≡◌ {A = ℕ} 4 7) ⊎ (◌≡◌ {A = ℕ} 4 3) → ⊥
    by (inl h) = omega (arith, h)
    by (inr h) = omega (arith, h)

pub returns-clause-link_untold : goal.returns-clause-link_untold
returns-clause-link_untold c = record { by_host = other (λ h. omega (arith, h)); no_host = inr refl; no_link = inr (inl (inl refl, inl (lit< tt))); by_sink = λ h. inl (lit< tt); no_sink = inl refl }

pub returns-clause-link_wanting : goal.returns-clause-link_wanting
returns-clause-link_wanting c = record { by_host = other (λ h. omega (arith, h)); no_host = inr refl; no_link = inr (inl (inr refl, inl (lit< tt))); by_sink = other (λ h. omega (arith, h)); no_sink = inr refl }

pub returns-clause-link_other : goal.returns-clause-link_other
returns-clause-link_other c h = by h.no_link
  where
    untold : IsUntold 8 → ⊥
    untold (inl h) = omega (arith, h)
    untold (inr h) = omega (arith, h)

    by : (◌≡◌ {A = ℕ} 8 7) ⊎ ((IsUntold 8 × Rose 4 5) ⊎ (◌≡◌ {A = ℕ} 5 4)) → ⊥
    by (inl h) = omega (arith, h)
    by (inr (inl h)) = untold h.0
    by (inr (inr h)) = omega (arith, h)

pub returns-clause-link_fell : goal.returns-clause-link_fell
returns-clause-link_fell c h = by h.no_link
  where
    by : (◌≡◌ {A = ℕ} 4 7) ⊎ ((IsUntold 4 × Rose 4 3) ⊎ (◌≡◌ {A = ℕ} 3 4)) → ⊥
    by (inl h) = omega (arith, h)
    by (inr (inl h)) = fell h.1
    by (inr (inr h)) = omega (arith, h)

pub returns-clause-sink : goal.returns-clause-sink
returns-clause-sink c = record { by_host = other (λ h. omega (arith, h)); no_host = inr refl; no_link = inr (inr refl); by_sink = λ h. inl (lit< tt); no_sink = inl refl }

pub returns-clause-sink_same : goal.returns-clause-sink_same
returns-clause-sink_same c h = same 5 (lit< tt) (h.by_sink refl)

pub returns-clause-sink_other : goal.returns-clause-sink_other
returns-clause-sink_other c h = by h.no_sink
  where
    by : (◌≡◌ {A = ℕ} 0 4) ⊎ (◌≡◌ {A = ℕ} 6 5) → ⊥
    by (inl h) = omega (arith, h)
    by (inr h) = omega (arith, h)
