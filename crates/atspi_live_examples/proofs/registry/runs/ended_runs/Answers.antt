use Rattle.std.proofs.Common.{◌≡◌, ℕ, List, [], ◌∷◌, Some, refl, inl, inr, arith}
use Rattle.std.specs.Prelude.{◌⊎◌, codes}
use Rattle.atspi_live_examples.proofs.OfRegistry.Running.{peer_ended, quiet_refused, tells_none}
use Rattle.atspi_live_examples.proofs.registry.runs.ended_runs.Goals as goal

pub returns-clause-not_given : goal.returns-clause-not_given
returns-clause-not_given c = (inl refl, refl)

pub returns-clause-no_memory : goal.returns-clause-no_memory
returns-clause-no_memory c = (inr refl, refl)

pub returns-clause-other_status : goal.returns-clause-other_status
returns-clause-other_status c s = by s.0
  where
    by : (◌≡◌ {A = ℕ} 0 7) ⊎ (◌≡◌ {A = ℕ} 0 5) → ⊥
    by (inl e) = omega (arith, e)
    by (inr e) = omega (arith, e)

pub returns-clause-written : goal.returns-clause-written
returns-clause-written c s = by s.1
  where
    by : Some (codes "a") ≡ Some [] → ⊥
    by h = cc

pub returns-clause-on_link : goal.returns-clause-on_link
returns-clause-on_link c = (peer_ended, refl)

pub returns-clause-second_link : goal.returns-clause-second_link
returns-clause-second_link c s = by s.1
  where
    by : ◌≡◌ {A = List ℕ} (1 ∷ []) [] → ⊥
    by h = cc

pub returns-clause-not_on_link : goal.returns-clause-not_on_link
returns-clause-not_on_link c s = tells_none s.0.ending (Some []) (Some []) s.0.reports

pub returns-clause-written_on_link : goal.returns-clause-written_on_link
returns-clause-written_on_link c s = quiet_refused s.0.ending s.0.reports
