use Rattle.atspi_app_known.specs.happenings.Happened.{happening_of}
use Rattle.atspi_world_parties.proofs.Queued.{told_more, told_none, none_given}
use Rattle.atspi_world_parties.proofs.telling.tell_app.Goals as goal

pub loop-event-preserved : goal.loop-event-preserved
loop-event-preserved g c =
    let exporter = g.A.Application.exporter in
    record {
      app = c.next.ensures.app;
      rest = λ after q new told. c.loop-event.invariant.rest after q new
          (told_more (exporter c.loop-event.app) (exporter c.next.new.self) after (happening_of c.in-Some.event) c.args.number c.loop-event.post c.tell_event.new.post q c.loop-event.trace.items
          c.tell_event.new.trace.items new c.in-Some.ensures.front c.next.ensures.rest c.in_ok-tell_event.ensures.post c.in_ok-tell_event.ensures.told c.in_ok-tell_event.ensures.written told);
    }

pub returns-clause-told : goal.returns-clause-told
returns-clause-told g c =
    let exporter = g.A.Application.exporter in
    c.loop-event.invariant.rest (exporter c.next.new.self) c.loop-event.post c.loop-event.trace.items
    (told_none (exporter c.loop-event.app) (exporter c.next.new.self) c.args.number c.loop-event.post c.loop-event.trace.items
    (none_given c.next.result _ _ c.in_default.not-Some c.next.ensures.front) (none_given c.next.result _ _ c.in_default.not-Some c.next.ensures.empty) c.next.ensures.rest)
