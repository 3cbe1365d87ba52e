use Rattle.atspi_trace_caches.proofs.OfServed.LawServed.{steps_asked_since}
use Rattle.atspi_trace_caches.proofs.served.laws.steps_are_asked_since.Goals as goal

pub returns : goal.returns
returns c = steps_asked_since
