use Rattle.atspi_trace.specs.Due.{begins, after_all}
use Rattle.atspi_trace_caches.proofs.OfWays.LawWays.{kept_behind, on_their_way}
use Rattle.atspi_trace_caches.proofs.OfServed.LawServed.{steps_asked}
use Rattle.atspi_trace_caches.proofs.ways.laws.what_is_there_leads.Goals as goal

pub returns : goal.returns
returns c =
    λ lines trace a g none name reader app its.
    let s = after_all (begins lines) trace in
    on_their_way lines trace a g none s.world s.free (kept_behind lines trace a g none) name reader app its (steps_asked lines trace a g name reader app)
