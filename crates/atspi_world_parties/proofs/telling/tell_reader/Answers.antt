use Rattle.std.proofs.Common.{◌∙◌, ap}
use Rattle.atspi_world_ends.specs.Done.{done_of}
use Rattle.atspi_trace.specs.play.Playing.{silent}
use Rattle.atspi_world_parties.proofs.Queued.{none_given}
use Rattle.atspi_world_parties.proofs.ToldAll.{tells_more, tells_none, silent_none}
use Rattle.atspi_world_parties.proofs.telling.tell_reader.Goals as goal

pub loop-event-preserved : goal.loop-event-preserved
loop-event-preserved g c =
    let follower = g.R.Follower.follower in
    record {
      is = c.next.ensures.is;
      silent = ap silent c.next.ensures.rest ∙ c.loop-event.invariant.silent;
      rest = λ posts new tells. c.loop-event.invariant.rest posts new
          (tells_more (follower c.loop-event.reader) (follower c.next.new.self) (done_of c.in-Some.event) c.args.number c.args.conn c.loop-event.posts c.tell_deed.new.posts posts c.loop-event.trace.items
          c.tell_deed.new.trace.items new c.in-Some.ensures.front c.in_ok-tell_deed.ensures.told tells);
    }

pub returns-clause-silent : goal.returns-clause-silent
returns-clause-silent g c =
    let follower = g.R.Follower.follower in
    silent_none (follower c.loop-event.reader) (follower c.next.new.self) (follower c.args.reader.now) (none_given c.next.result _ _ c.in_default.not-Some c.next.ensures.empty)
    (none_given c.next.result _ _ c.in_default.not-Some c.next.ensures.front) c.loop-event.invariant.silent

pub returns-clause-tells : goal.returns-clause-tells
returns-clause-tells g c =
    let follower = g.R.Follower.follower in
    c.loop-event.invariant.rest c.loop-event.posts c.loop-event.trace.items
    (tells_none (follower c.loop-event.reader) c.args.number c.args.conn c.loop-event.posts c.loop-event.trace.items (none_given c.next.result _ _ c.in_default.not-Some c.next.ensures.front))
