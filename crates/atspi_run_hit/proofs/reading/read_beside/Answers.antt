use Rattle.atspi_run_hit.proofs.OwnLines.{no_cell}
use Rattle.atspi_run_hit.proofs.reading.read_beside.Goals as goal

pub returns-in-None : goal.returns-in-None
returns-in-None c = no_cell c.args.bytes.now c.in-None.ensures
