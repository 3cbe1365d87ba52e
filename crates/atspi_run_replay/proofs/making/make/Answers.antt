use Rattle.std.proofs.Common.{arith}
use Rattle.atspi_run_replay.proofs.MadeLemmas.{made_stop, stop_blames}
use Rattle.atspi_run_replay.proofs.RunLemmas.{caused_stop}
use Rattle.atspi_run_replay.proofs.making.make.Goals as goal

pub returns-in-Err-clause-made : goal.returns-in-Err-clause-made
returns-in-Err-clause-made g c = rw c.stop_status.ensures (made_stop c.args.count c.args.seed c.in-Err.stop (g.K.Sink.written c.args.sink.now) c.in-Err.ensures.stops)

pub returns-in-Err-clause-causes : goal.returns-in-Err-clause-causes
returns-in-Err-clause-causes g c source =
    rw c.stop_status.ensures
    (caused_stop c.in-Err.stop source source (g.K.Sink.faults c.args.sink.now) (g.K.Sink.faults c.args.sink.now) (omega arith)
    (stop_blames c.args.count c.args.seed (g.K.Sink.faults c.args.sink.now) c.in-Err.stop c.in-Err.ensures.stops))
