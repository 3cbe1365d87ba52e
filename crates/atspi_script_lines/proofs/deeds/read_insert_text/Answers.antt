use Rattle.atspi_script_lines.proofs.FormLemmas.{no_insert_text}
use Rattle.atspi_script_lines.proofs.deeds.read_insert_text.Goals as goal

pub returns-in-None : goal.returns-in-None
returns-in-None c = no_insert_text c.args.bytes.now (rw c.in-None.is at c.in_ok-at.ensures)
