use Rattle.atspi_run_hit.proofs.OwnLines.{no_place}
use Rattle.atspi_run_hit.proofs.reading.read_place.Goals as goal

pub returns-in-None : goal.returns-in-None
returns-in-None c = no_place c.args.bytes.now c.in-None.ensures
