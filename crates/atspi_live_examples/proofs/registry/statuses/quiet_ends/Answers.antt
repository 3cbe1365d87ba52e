use Rattle.std.proofs.Common.{◌≡◌, [], Some, refl, arith}
use Rattle.std.specs.Prelude.{codes}
use Rattle.atspi_live_examples.proofs.registry.statuses.quiet_ends.Goals as goal

pub returns-clause-same : goal.returns-clause-same
returns-clause-same c w = (refl, refl)

pub returns-clause-other_status : goal.returns-clause-other_status
returns-clause-other_status c w q = omega (arith, q.0)

pub returns-clause-written : goal.returns-clause-written
returns-clause-written c q = by q.1
  where
    by : Some (codes "a") ≡ Some [] → ⊥
    by h = cc
