use Rattle.std.proofs.Common.{List, length}
use Rattle.atspi_trace_events.specs.declared.event.Event.{Event}
use Rattle.atspi_world_links.specs.declared.post.Post.{Post}
use Rattle.atspi_protocol.specs.exporting.Exporter.{Exporter}
use Rattle.atspi_world_parties.specs.Doing.{IsTold}
use Rattle.atspi_world_parties.proofs.telling.tell_app.Given as goal

-- what is told of the rest completes what was told so far
abbrev pub invariant-loop-event : goal.invariant-loop-event
invariant-loop-event g l =
    let exporter = g.A.Application.exporter in
    record {
      app : g.A.Application.is_app l.app;
      rest : (after : Exporter) (q : Post) (new : List Event) → IsTold (exporter l.app) after l.number l.post q l.trace.items new
          → IsTold (exporter l.initial.app) after l.number l.initial.post q l.initial.trace.items new;
    }

abbrev pub decreases-loop-event : goal.decreases-loop-event
decreases-loop-event g l = length (g.A.Application.exporter l.app).out
