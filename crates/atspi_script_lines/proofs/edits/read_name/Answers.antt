use Rattle.atspi_script_lines.proofs.FormLemmas.{no_name}
use Rattle.atspi_script_lines.proofs.edits.read_name.Goals as goal

pub returns-in-None : goal.returns-in-None
returns-in-None c = no_name c.args.bytes.now (rw c.in-None.is at c.in_ok-node.ensures)
