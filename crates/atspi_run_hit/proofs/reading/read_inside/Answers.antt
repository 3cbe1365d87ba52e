use Rattle.atspi_run_hit.proofs.OwnLines.{no_inside}
use Rattle.atspi_run_hit.proofs.reading.read_inside.Goals as goal

pub returns-in-None : goal.returns-in-None
returns-in-None c = no_inside c.args.bytes.now c.in-None.ensures
