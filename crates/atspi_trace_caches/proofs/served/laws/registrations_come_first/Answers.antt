use Rattle.atspi_trace_caches.proofs.OfServed.ReachingLaw.{registrations_first}
use Rattle.atspi_trace_caches.proofs.served.laws.registrations_come_first.Goals as goal

pub returns : goal.returns
returns c = registrations_first
