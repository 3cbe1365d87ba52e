use Rattle.std.proofs.Common.{◌≡◌, ◌<◌, ◌≤◌, ◌⊎◌, ℕ, refl, inl, inr, arith, lit<, lit≤}
use Rattle.atspi_live_reader.proofs.examples.overs.counts.Goals as goal

pub returns-clause-host : goal.returns-clause-host
returns-clause-host c = (lit≤ tt, inl (lit< tt))

pub returns-clause-host_same : goal.returns-clause-host_same
returns-clause-host_same c h = by h.1
  where
    by : (3 < 3) ⊎ (◌≡◌ {A = ℕ} 3 18446744073709551615) → ⊥
    by (inl h) = omega (arith, h)
    by (inr h) = omega (arith, h)

pub returns-clause-peer : goal.returns-clause-peer
returns-clause-peer c = refl

pub returns-clause-peer_rose : goal.returns-clause-peer_rose
returns-clause-peer_rose c h = omega (arith, h)

pub returns-clause-no_host : goal.returns-clause-no_host
returns-clause-no_host c = refl

pub returns-clause-no_host_rose : goal.returns-clause-no_host_rose
returns-clause-no_host_rose c h = omega (arith, h)

pub returns-clause-sink : goal.returns-clause-sink
returns-clause-sink c = (lit≤ tt, inl (lit< tt))

pub returns-clause-sink_same : goal.returns-clause-sink_same
returns-clause-sink_same c h = by h.1
  where
    by : (3 < 3) ⊎ (◌≡◌ {A = ℕ} 3 18446744073709551615) → ⊥
    by (inl h) = omega (arith, h)
    by (inr h) = omega (arith, h)

pub returns-clause-sink_last : goal.returns-clause-sink_last
returns-clause-sink_last c = (lit≤ tt, inr refl)

pub returns-clause-sink_fell : goal.returns-clause-sink_fell
returns-clause-sink_fell c h = by h.0
  where
    by : 18446744073709551615 ≤ 0 → ⊥
    by h = omega (arith, h)

pub returns-clause-no_sink : goal.returns-clause-no_sink
returns-clause-no_sink c = refl

pub returns-clause-no_sink_rose : goal.returns-clause-no_sink_rose
returns-clause-no_sink_rose c h = omega (arith, h)
