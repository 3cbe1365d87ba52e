use Rattle.atspi_script_lines.proofs.FormLemmas.{no_describe}
use Rattle.atspi_script_lines.proofs.edits.read_describe.Goals as goal

pub returns-in-None : goal.returns-in-None
returns-in-None c = no_describe c.args.bytes.now (rw c.in-None.is at c.in_ok-node.ensures)
