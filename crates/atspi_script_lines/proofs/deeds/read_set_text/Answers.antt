use Rattle.atspi_script_lines.proofs.FormLemmas.{no_set_text}
use Rattle.atspi_script_lines.proofs.deeds.read_set_text.Goals as goal

pub returns-in-None : goal.returns-in-None
returns-in-None c = no_set_text c.args.bytes.now (rw c.in-None.is at c.in_ok-text.ensures)
