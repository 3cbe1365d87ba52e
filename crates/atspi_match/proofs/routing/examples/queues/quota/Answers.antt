use Rattle.std.proofs.Common.{refl}
use Rattle.atspi_match.proofs.OfRouting.Known.{known}
use Rattle.atspi_match.proofs.routing.examples.queues.quota.Goals as goal

pub returns-clause-fits : goal.returns-clause-fits
returns-clause-fits c = simp known refl

pub returns-clause-fits_still : goal.returns-clause-fits_still
returns-clause-fits_still c = simp known refl

pub returns-clause-passes : goal.returns-clause-passes
returns-clause-passes c = simp known refl

pub returns-clause-closes : goal.returns-clause-closes
returns-clause-closes c = simp known refl

pub returns-clause-due : goal.returns-clause-due
returns-clause-due c = simp known refl

pub returns-clause-other : goal.returns-clause-other
returns-clause-other c = simp known refl
