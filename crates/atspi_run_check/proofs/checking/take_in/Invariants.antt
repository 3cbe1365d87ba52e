use Rattle.std.proofs.Common.{◌≡◌, ◌≤◌, ◌-◌, [], length}
use Rattle.atspi_run_check.proofs.CheckLemmas.{Taking}
use Rattle.atspi_run_check.proofs.checking.take_in.Given as goal

abbrev pub invariant-pieces : goal.invariant-pieces
invariant-pieces g l =
    record {
      taking : Taking (g.S.Source.left l.fn.source) (g.S.Source.left l.source) l.feeder l.fed (g.K.Sink.written l.fn.sink) (g.K.Sink.written l.sink);
      within : l.fed ≤ 1073741824;
      source : g.S.Source.faults l.source ≡ g.S.Source.faults l.fn.source;
      sink : g.K.Sink.faults l.sink ≡ g.K.Sink.faults l.fn.sink;
      piece : length l.piece ≡ 65536;
      none_waits : l.out ≡ [];
    }

abbrev pub decreases-pieces : goal.decreases-pieces
decreases-pieces g l = 1073741824 - l.fed
