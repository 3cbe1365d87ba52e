use Rattle.std.proofs.Common.{refl}
use Rattle.atspi_match.proofs.OfRouting.Known.{known}
use Rattle.atspi_match.proofs.routing.examples.queues.no_hello.Goals as goal

pub returns-clause-closed : goal.returns-clause-closed
returns-clause-closed c = simp known refl

pub returns-clause-own : goal.returns-clause-own
returns-clause-own c = simp known refl

pub returns-clause-left : goal.returns-clause-left
returns-clause-left c = simp known refl
