use Rattle.std.proofs.Common.{◌≡◌}
use Rattle.atspi_world.specs.Stage.{trace_of, posts_of}
use Rattle.atspi_run_replay.specs.inner.Told.{told_from}
use Rattle.atspi_run_replay.proofs.Pending.{Pending}
use Rattle.atspi_run_replay.proofs.telling.write_trace.Given as goal

abbrev pub invariant-loop-place : goal.invariant-loop-place
invariant-loop-place g l =
    record {
      told :
          Pending l.options (g.K.Sink.written l.fn.sink) (g.K.Sink.written l.sink) l.text (told_from (posts_of l.world) (trace_of l.world) l.place)
          (told_from (posts_of l.world) (trace_of l.world) l.from);
      steady : g.K.Sink.faults l.sink ≡ g.K.Sink.faults l.fn.sink;
    }
