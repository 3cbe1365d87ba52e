use Rattle.atspi_run_hit.proofs.Ended.{done_nothing}
use Rattle.atspi_run_hit.proofs.command.hit.Goals as goal

-- want of memory before anything is read
pub returns-in_default-clause-done : goal.returns-in_default-clause-done
returns-in_default-clause-done g c = done_nothing (g.S.Source.left c.args.source.now) (g.S.Source.left c.args.source.now) (g.K.Sink.written c.args.sink.now)

pub returns-in_default-new-clause-done : goal.returns-in_default-new-clause-done
returns-in_default-new-clause-done g c = done_nothing (g.S.Source.left c.args.source.now) (g.S.Source.left c.args.source.now) (g.K.Sink.written c.args.sink.now)

pub returns-in_default-new-2-clause-done : goal.returns-in_default-new-2-clause-done
returns-in_default-new-2-clause-done g c = done_nothing (g.S.Source.left c.args.source.now) (g.S.Source.left c.args.source.now) (g.K.Sink.written c.args.sink.now)
