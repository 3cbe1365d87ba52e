use Rattle.atspi_trace_caches.proofs.OfCaches.LawCaches.{lines_are_read}
use Rattle.atspi_trace_caches.proofs.OfServed.LawServed.{steps_asked}
use Rattle.atspi_trace_caches.proofs.caches.laws.lines_are_read.Goals as goal

pub returns : goal.returns
returns c = λ script trace a g none name reader app its. lines_are_read script trace a g none name reader app its (steps_asked script trace a g name reader app)
