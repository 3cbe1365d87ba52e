use Rattle.atspi_script_lines.proofs.FormLemmas.{no_caret}
use Rattle.atspi_script_lines.proofs.edits.read_caret.Goals as goal

pub returns-in-None : goal.returns-in-None
returns-in-None c = no_caret c.args.bytes.now c.in-None.ensures
