use Rattle.atspi_run_hit.proofs.OwnLines.{edit_fault}
use Rattle.atspi_run_hit.proofs.reading.other_of.Goals as goal

pub returns-in-Err : goal.returns-in-Err
returns-in-Err c = edit_fault c.in-Err.fault c.args.bytes.now c.in_default.ensures c.in-Err.ensures
