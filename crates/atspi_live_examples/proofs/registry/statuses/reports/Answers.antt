use Rattle.std.proofs.Common.{◌≡◌, [], Some, refl, arith}
use Rattle.std.specs.Prelude.{codes}
use Rattle.atspi_live_examples.proofs.registry.statuses.reports.Goals as goal

pub returns-clause-peer_ended : goal.returns-clause-peer_ended
returns-clause-peer_ended c = (refl, refl)

pub returns-clause-no_memory : goal.returns-clause-no_memory
returns-clause-no_memory c = (refl, refl)

pub returns-clause-host_failed : goal.returns-clause-host_failed
returns-clause-host_failed c = (refl, refl)

pub returns-clause-rounds_done : goal.returns-clause-rounds_done
returns-clause-rounds_done c = (refl, refl)

pub returns-clause-not_authenticated : goal.returns-clause-not_authenticated
returns-clause-not_authenticated c = (refl, refl)

pub returns-clause-spent : goal.returns-clause-spent
returns-clause-spent c = (refl, refl)

pub returns-clause-peer_failed : goal.returns-clause-peer_failed
returns-clause-peer_failed c r = omega (arith, r.0)

pub returns-clause-written : goal.returns-clause-written
returns-clause-written c r = by r.1
  where
    by : Some (codes "a") ≡ Some [] → ⊥
    by h = cc
