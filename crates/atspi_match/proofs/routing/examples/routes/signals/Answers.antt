use Rattle.std.proofs.Common.{refl}
use Rattle.atspi_match.proofs.OfRouting.Known.{known}
use Rattle.atspi_match.proofs.routing.examples.routes.signals.Goals as goal

pub returns-clause-both : goal.returns-clause-both
returns-clause-both c = simp known refl

pub returns-clause-to_one : goal.returns-clause-to_one
returns-clause-to_one c = simp known refl

pub returns-clause-to_nobody : goal.returns-clause-to_nobody
returns-clause-to_nobody c = simp known refl

pub returns-clause-to_bus : goal.returns-clause-to_bus
returns-clause-to_bus c = simp known refl
