use Rattle.std.proofs.Common.{◌≡◌, List, length}
use Rattle.atspi_trace_events.specs.declared.event.Event.{Event}
use Rattle.atspi_world_links.specs.declared.post.Post.{Post}
use Rattle.atspi_trace.specs.play.Playing.{silent}
use Rattle.atspi_world_parties.specs.Doing.{TellsAll}
use Rattle.atspi_world_parties.proofs.telling.tell_reader.Given as goal

-- what is told of the rest completes what was told so far
abbrev pub invariant-loop-event : goal.invariant-loop-event
invariant-loop-event g l =
    let follower = g.R.Follower.follower in
    record {
      is : g.R.Follower.is_follower l.reader;
      silent : silent (follower l.reader) ≡ silent (follower l.initial.reader);
      rest : (posts : List Post) (new : List Event) → TellsAll (follower l.reader) l.number l.conn l.posts posts l.trace.items new
          → TellsAll (follower l.initial.reader) l.number l.conn l.initial.posts posts l.initial.trace.items new;
    }

abbrev pub decreases-loop-event : goal.decreases-loop-event
decreases-loop-event g l = length (g.R.Follower.follower l.reader).out
