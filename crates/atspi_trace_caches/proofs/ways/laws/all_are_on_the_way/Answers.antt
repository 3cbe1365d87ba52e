use Rattle.atspi_trace.specs.Due.{begins, after_all}
use Rattle.atspi_trace_caches.proofs.OfWays.LawWays.{kept_behind}
use Rattle.atspi_trace_caches.proofs.OfWays.LawThere.{all_on_the_way}
use Rattle.atspi_trace_caches.proofs.OfServed.LawServed.{steps_asked_since}
use Rattle.atspi_trace_caches.proofs.ways.laws.all_are_on_the_way.Goals as goal

pub returns : goal.returns
returns c =
    λ lines trace a g none name reader app are_here k holds.
    let s = after_all (begins lines) trace in
    all_on_the_way lines trace a g none s.world s.free (kept_behind lines trace a g none) name reader app are_here k holds (steps_asked_since lines trace a g none name reader app are_here k holds)
