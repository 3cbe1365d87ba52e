use Rattle.atspi_run.proofs.TaskLemmas.{gave_up}
use Rattle.atspi_run.proofs.world.do_task.Goals as goal

-- want of memory before a world stands
pub returns-in_default-clause-does : goal.returns-in_default-clause-does
returns-in_default-clause-does g c = gave_up c.args.task (g.S.Source.left c.args.source.now) (g.K.Sink.written c.args.sink.now)

pub returns-in_default-spares-clause-does : goal.returns-in_default-spares-clause-does
returns-in_default-spares-clause-does g c = gave_up c.args.task (g.S.Source.left c.args.source.now) (g.K.Sink.written c.args.sink.now)

-- what was made is what a world asks for
pub do_over-requires-clause-kits : goal.do_over-requires-clause-kits
do_over-requires-clause-kits g c = λ k d less. c.in-Ok.ensures.each k d less

pub do_over-requires-clause-spares : goal.do_over-requires-clause-spares
do_over-requires-clause-spares g c = λ k d less. c.in-Ok-spares.ensures.each k d less
