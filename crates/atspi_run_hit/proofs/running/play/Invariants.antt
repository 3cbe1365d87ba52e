use Rattle.std.proofs.Common.{◌≡◌, ◌≤◌, ◌+◌, ℕ, List, length}
use Rattle.std.specs.Io.KnownBytes.{Appends}
use Rattle.atspi_run_input.specs.Lines.{lines_read}
use Rattle.atspi_run_hit.specs.inner.Seen.{HasCalled, IsSession, scene_of}
use Rattle.atspi_run_hit.proofs.Course.{SoFar}
use Rattle.atspi_run_hit.proofs.running.play.Given as goal

abbrev pub invariant-loop-line : goal.invariant-loop-line
invariant-loop-line g l =
    record {
      told :
          (text : List ℕ)
          × SoFar (lines_read l.ended l.text) (lines_read l.ended l.rest) text l.number (scene_of g.T.Whole.tree_of l.session)
          × Appends (g.K.Sink.written l.fn.sink) (g.K.Sink.written l.sink) text;
      session : IsSession g.T.Whole.is_whole g.T.Whole.is_kit l.session;
      called : HasCalled (scene_of g.T.Whole.tree_of l.session) l.number;
      steady : g.K.Sink.faults l.sink ≡ g.K.Sink.faults l.fn.sink;
      few : l.number + length l.rest ≤ length l.text;
    }

abbrev pub decreases-loop-line : goal.decreases-loop-line
decreases-loop-line g l = length l.rest
