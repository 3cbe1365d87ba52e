use Rattle.atspi_run_hit.proofs.Lines.{does_line, line_may, no_line}
use Rattle.atspi_run_hit.proofs.running.do_line.Goals as goal

pub does-requires-clause-may : goal.does-requires-clause-may
does-requires-clause-may g c = line_may c.in-Ok.line c.args.bytes.now c.in-Ok.ensures

pub returns-in-Ok-clause-line : goal.returns-in-Ok-clause-line
returns-in-Ok-clause-line g c = does_line c.does.result c.in-Ok.line c.args.bytes.now _ _ _ c.in-Ok.ensures c.does.ensures.answers

pub returns-in-Err-clause-line : goal.returns-in-Err-clause-line
returns-in-Err-clause-line g c = rw c.undone_of_line.ensures (no_line c.in-Err.fault c.args.bytes.now _ _ _ c.in-Err.ensures)
