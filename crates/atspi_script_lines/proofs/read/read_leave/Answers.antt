use Rattle.atspi_script_lines.proofs.FormLemmas.{no_leave_line}
use Rattle.atspi_script_lines.proofs.read.read_leave.Goals as goal

pub returns-in-None : goal.returns-in-None
returns-in-None c = no_leave_line c.args.bytes.now c.in-None.ensures
