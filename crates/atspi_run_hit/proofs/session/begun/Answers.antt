use Rattle.atspi_run_hit.proofs.Starting.{begun_is}
use Rattle.atspi_run_hit.proofs.session.begun.Goals as goal

pub returns-in-Ok-clause-begins : goal.returns-in-Ok-clause-begins
returns-in-Ok-clause-begins g c = begun_is _ _ c.args.name.now _ c.of.ensures.scene c.in-Ok.ensures.begins c.in_ok-name.ensures
