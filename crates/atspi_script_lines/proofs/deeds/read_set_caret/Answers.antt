use Rattle.atspi_script_lines.proofs.FormLemmas.{no_set_caret}
use Rattle.atspi_script_lines.proofs.deeds.read_set_caret.Goals as goal

pub returns-in-None : goal.returns-in-None
returns-in-None c = no_set_caret c.args.bytes.now c.in-None.ensures
