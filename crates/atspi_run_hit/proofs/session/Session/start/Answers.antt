use Rattle.atspi_run_hit.proofs.Starting.{is_name, long_refused, start_done}
use Rattle.atspi_run_hit.proofs.session.Session.start.Goals as goal

pub returns-then-is_long-clause-answers : goal.returns-then-is_long-clause-answers
returns-then-is_long-clause-answers g c = long_refused c.args.name.now c.is_long.result c.is_long.ensures c.if-is_long.true

pub begun-requires-clause-name : goal.begun-requires-clause-name
begun-requires-clause-name g c = is_name c.args.name.now c.is_long.result c.is_long.ensures c.if-is_long.false

pub returns-in-Ok-clause-answers : goal.returns-in-Ok-clause-answers
returns-in-Ok-clause-answers g c = start_done c.args.name.now c.is_long.result _ c.is_long.ensures c.if-is_long.false c.in-Ok.ensures.begins
