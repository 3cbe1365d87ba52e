use Rattle.std.proofs.Common.{◌-◌, length}
use Rattle.atspi_run_check.proofs.CheckLemmas.{told_part}
use Rattle.atspi_run_check.proofs.checking.show_whole.Goals as goal

pub returns-in-Err-written-clause-err : goal.returns-in-Err-written-clause-err
returns-in-Err-written-clause-err g c =
    told_part c.in-Ok.fault (c.args.fed - length c.args.feeder.now) c.args.feeder.now c.tell_whole.new.feeder c.args.out.now c.tell_whole.new.out
    (g.K.Sink.written c.args.sink.now) (g.K.Sink.written c.tell_whole.new.sink) (g.K.Sink.written c.write_waiting-written.new.sink) c.requires.none_waits c.in-Ok.ensures.ok c.in-Err-written.ensures.err
