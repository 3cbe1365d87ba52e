use Rattle.std.proofs.Common.{refl}
use Rattle.atspi_examples.proofs.OfRouting.Known.{known}
use Rattle.atspi_examples.proofs.routing.queues.deliveries.Goals as goal

pub returns-clause-kept : goal.returns-clause-kept
returns-clause-kept c = simp known refl
