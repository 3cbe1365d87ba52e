use Rattle.std.proofs.Common.{◌≡◌, ◌≤◌, ◌+◌, List, length}
use Rattle.std.specs.Io.KnownBytes.{Appends}
use Rattle.atspi_world.specs.Stage.{IsStage}
use Rattle.atspi_world.specs.Worlds.{staged}
use Rattle.atspi_run_replay.specs.Lines.{lines_read}
use Rattle.atspi_run_replay.specs.Told.{Told, told_text}
use Rattle.atspi_run_replay.proofs.Course.{SoFar}
use Rattle.atspi_run_replay.proofs.playing.play_lines.Given as goal

abbrev pub invariant-loop-line : goal.invariant-loop-line
invariant-loop-line g l =
    record {
      told :
          (told : List Told)
          × SoFar (lines_read l.ended l.text) (lines_read l.ended l.rest) told l.number (staged g.A.Application.exporter g.R.Follower.follower l.world)
          × Appends (g.K.Sink.written l.fn.sink) (g.K.Sink.written l.sink) (told_text l.options told);
      stage : IsStage g.A.Application.is_app g.R.Follower.is_follower g.A.Application.is_kit g.A.Application.is_spare l.world;
      steady : g.K.Sink.faults l.sink ≡ g.K.Sink.faults l.fn.sink;
      few : l.number + length l.rest ≤ length l.text;
    }

abbrev pub decreases-loop-line : goal.decreases-loop-line
decreases-loop-line g l = length l.rest
