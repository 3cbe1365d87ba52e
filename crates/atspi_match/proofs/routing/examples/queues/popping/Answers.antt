use Rattle.std.proofs.Common.{refl}
use Rattle.atspi_match.proofs.OfRouting.Known.{known}
use Rattle.atspi_match.proofs.routing.examples.queues.popping.Goals as goal

pub returns-clause-rest : goal.returns-clause-rest
returns-clause-rest c = simp known refl

pub returns-clause-other : goal.returns-clause-other
returns-clause-other c = simp known refl

pub returns-clause-joined : goal.returns-clause-joined
returns-clause-joined c = simp known refl
