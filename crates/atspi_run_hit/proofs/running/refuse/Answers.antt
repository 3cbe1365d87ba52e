use Rattle.atspi_run_hit.proofs.Course.{all_part}
use Rattle.atspi_run_hit.proofs.running.refuse.Goals as goal

pub returns-in-Ok-clause-err : goal.returns-in-Ok-clause-err
returns-in-Ok-clause-err g c = all_part _ _ _ c.in-Ok.ensures.ok
