use Rattle.atspi_run_input.proofs.ReadLemmas.{caused_end, caused_memory}
use Rattle.atspi_run_hit.proofs.Ended.{caused_stop, done_end, done_nothing, done_stop}
use Rattle.atspi_run_hit.proofs.running.hit_over.Goals as goal

pub returns-in_default-clause-done : goal.returns-in_default-clause-done
returns-in_default-clause-done g c = done_nothing (g.S.Source.left c.args.source.now) (g.S.Source.left c.read_all.new.source) (g.K.Sink.written c.args.sink.now)

pub returns-in_default-clause-causes : goal.returns-in_default-clause-causes
returns-in_default-clause-causes g c = caused_memory _ _ _ c.read_all.ensures.faults

pub returns-in-Ok-play-clause-done : goal.returns-in-Ok-play-clause-done
returns-in-Ok-play-clause-done g c =
    rw c.status.ensures
    (done_end c.in-Ok.end (g.S.Source.left c.args.source.now) (g.S.Source.left c.read_all.new.source) (g.K.Sink.written c.args.sink.now) (g.K.Sink.written c.play.new.sink) c.read_all.new.text.items
    c.in-Ok.ensures.read c.in-Ok.ensures.limit (rw (c.is_whole.ensures, c.deref.ensures.value) at c.in-Ok-play.ensures.ok))

pub returns-in-Ok-play-clause-causes : goal.returns-in-Ok-play-clause-causes
returns-in-Ok-play-clause-causes g c = rw c.status.ensures (caused_end c.in-Ok.end _ _ _ _ c.read_all.ensures.faults c.in-Ok.ensures.cause c.in-Ok-play.ensures.cause)

pub returns-clause-done : goal.returns-clause-done
returns-clause-done g c =
    rw c.stop_status.ensures
    (done_stop (Unit {0}) c.in-Ok.end c.in-Err.stop (g.S.Source.left c.args.source.now) (g.S.Source.left c.read_all.new.source) (g.K.Sink.written c.args.sink.now) (g.K.Sink.written c.play.new.sink)
    c.read_all.new.text.items c.in-Ok.ensures.read c.in-Ok.ensures.limit (rw (c.is_whole.ensures, c.deref.ensures.value) at c.in-Err.ensures.refused) (rw (c.is_whole.ensures, c.deref.ensures.value) at c.in-Err.ensures.err))

pub returns-clause-causes : goal.returns-clause-causes
returns-clause-causes g c = rw c.stop_status.ensures (caused_stop c.in-Err.stop _ _ _ _ c.read_all.ensures.faults c.in-Err.ensures.cause)
