use Rattle.std.proofs.Common.{◌≡◌, ◌≤◌, ◌-◌, length}
use Rattle.atspi_run_check.proofs.CheckLemmas.{Telling}
use Rattle.atspi_run_check.proofs.checking.tell_whole.Given as goal

abbrev pub invariant-messages : goal.invariant-messages
invariant-messages g l =
    record {
      telling : Telling (l.fed - length l.fn.feeder) l.fn.feeder l.feeder l.fn.out l.out (g.K.Sink.written l.fn.sink) (g.K.Sink.written l.sink);
      within : length l.feeder ≤ l.fed;
      steady : g.K.Sink.faults l.sink ≡ g.K.Sink.faults l.fn.sink;
    }

abbrev pub decreases-messages : goal.decreases-messages
decreases-messages g l = length l.feeder
