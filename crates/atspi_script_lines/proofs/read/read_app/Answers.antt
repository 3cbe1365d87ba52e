use Rattle.atspi_script_lines.proofs.FormLemmas.{no_app_line}
use Rattle.atspi_script_lines.proofs.read.read_app.Goals as goal

pub returns-in-None : goal.returns-in-None
returns-in-None c = no_app_line c.args.bytes.now (rw c.in-None.is at c.in_ok-name.ensures)
