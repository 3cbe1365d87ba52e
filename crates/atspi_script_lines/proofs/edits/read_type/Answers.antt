use Rattle.atspi_script_lines.proofs.FormLemmas.{no_type}
use Rattle.atspi_script_lines.proofs.edits.read_type.Goals as goal

pub returns-in-None : goal.returns-in-None
returns-in-None c = no_type c.args.bytes.now (rw c.in-None.is at c.in_ok-node.ensures)
