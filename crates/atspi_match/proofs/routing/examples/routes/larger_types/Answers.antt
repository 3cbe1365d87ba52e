use Rattle.std.proofs.Common.{refl}
use Rattle.atspi_match.proofs.OfRouting.Known.{known}
use Rattle.atspi_match.proofs.routing.examples.routes.larger_types.Goals as goal

pub returns-clause-to_one : goal.returns-clause-to_one
returns-clause-to_one c = simp known refl

pub returns-clause-to_nobody : goal.returns-clause-to_nobody
returns-clause-to_nobody c = simp known refl
