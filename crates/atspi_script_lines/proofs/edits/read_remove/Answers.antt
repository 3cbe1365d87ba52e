use Rattle.atspi_script_lines.proofs.FormLemmas.{no_remove}
use Rattle.atspi_script_lines.proofs.edits.read_remove.Goals as goal

pub returns-in-None : goal.returns-in-None
returns-in-None c = no_remove c.args.bytes.now c.in-None.ensures
