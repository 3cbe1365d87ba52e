use Rattle.atspi_run_hit.proofs.OwnLines.{no_extents}
use Rattle.atspi_run_hit.proofs.reading.read_extents.Goals as goal

pub returns-in-None : goal.returns-in-None
returns-in-None c = no_extents c.args.bytes.now c.in-None.ensures
