use Rattle.atspi_run_hit.proofs.OwnLines.{no_point}
use Rattle.atspi_run_hit.proofs.reading.read_at_point.Goals as goal

pub returns-in-None : goal.returns-in-None
returns-in-None c = no_point c.args.bytes.now c.in-None.ensures
