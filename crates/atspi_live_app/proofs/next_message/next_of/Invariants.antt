use Rattle.std.proofs.Common.{[], Some, length}
use Rattle.atspi_live_app.specs.Standing.{HandedOut}
use Rattle.atspi_live_app.proofs.next_message.next_of.Given as goal

abbrev pub invariant-events : goal.invariant-events
invariant-events g l =
    record {
      handed : HandedOut [] (Some (g.A.Application.exporter l.app)) (Some (g.A.Application.exporter l.fn.app));
      is : g.A.Application.is_app l.app;
    }

abbrev pub decreases-events : goal.decreases-events
decreases-events g l = length (g.A.Application.exporter l.app).out
