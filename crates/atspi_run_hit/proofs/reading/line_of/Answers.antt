use Rattle.atspi_run_hit.proofs.OwnLines.{no_line_if, other_if}
use Rattle.atspi_run_hit.proofs.reading.line_of.Goals as goal

pub returns-in-None : goal.returns-in-None
returns-in-None c = other_if c.in-Ok.line c.plain_in.result c.other_of.result c.args.bytes.now c.plain_in.ensures c.in-None.is c.in-Ok.ensures c.other_of.ensures

pub returns-in-Err-Form : goal.returns-in-Err-Form
returns-in-Err-Form c = no_line_if c.in-Err-Form.field-0 c.other_of-in-Err-Form.result c.args.bytes.now c.in-Err-Form.field-0-is c.in-Err-Form.ensures c.other_of-in-Err-Form.ensures
