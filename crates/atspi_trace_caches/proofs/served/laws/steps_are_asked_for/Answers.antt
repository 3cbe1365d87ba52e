use Rattle.atspi_trace_caches.proofs.OfServed.LawServed.{steps_asked}
use Rattle.atspi_trace_caches.proofs.served.laws.steps_are_asked_for.Goals as goal

pub returns : goal.returns
returns c = steps_asked
