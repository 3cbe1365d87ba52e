use Rattle.atspi_trace_caches.proofs.OfCaches.LawCaches.{caches_follow}
use Rattle.atspi_trace_caches.proofs.OfServed.LawServed.{steps_asked}
use Rattle.atspi_trace_caches.proofs.caches.laws.caches_follow.Goals as goal

pub returns : goal.returns
returns c = λ lines trace a g none name reader app its. caches_follow lines trace a g none name reader app its (steps_asked lines trace a g name reader app)
