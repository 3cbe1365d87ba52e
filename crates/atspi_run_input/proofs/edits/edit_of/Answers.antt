use Rattle.std.proofs.Common.{rules}
use Rattle.atspi_run_input.proofs.EditLines.{no_edit_if}
use Rattle.atspi_run_input.proofs.edits.edit_of.Goals as goal

pub returns-in-Err-Form : goal.returns-in-Err-Form
returns-in-Err-Form c = no_edit_if c.in-Err-Form.field-0 c.args.bytes.now c.deref.result.now c.in-Err-Form.field-0-is (search rules) c.in-Err-Form.ensures
