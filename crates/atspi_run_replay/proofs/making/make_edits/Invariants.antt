use Rattle.std.proofs.Common.{◌<◌, ◌-◌}
use Rattle.atspi_world.specs.Stage.{IsStage, trace_of}
use Rattle.atspi_world.specs.Worlds.{staged}
use Rattle.atspi_trace.specs.Entry.{entries_of}
use Rattle.atspi_run_replay.specs.inner.Made.{AreSeen, HasDrawn}
use Rattle.atspi_run_replay.proofs.making.make_edits.Given as goal

abbrev pub invariant-loop-number : goal.invariant-loop-number
invariant-loop-number g l =
    record {
      counted : 0 < l.number;
      stage : IsStage g.A.Application.is_app g.R.Follower.is_follower g.A.Application.is_kit g.A.Application.is_spare l.world;
      drawn : HasDrawn l.fn.draws.state (l.number - 1) l.draws.state (staged g.A.Application.exporter g.R.Follower.follower l.world);
      seen : AreSeen l.nodes.nodes.items l.nodes.next (entries_of (trace_of l.world));
    }
