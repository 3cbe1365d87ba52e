use Rattle.atspi_run_hit.proofs.OwnLines.{no_follow}
use Rattle.atspi_run_hit.proofs.reading.read_follow.Goals as goal

pub returns-in-None : goal.returns-in-None
returns-in-None c = no_follow c.args.bytes.now c.in-None.ensures
