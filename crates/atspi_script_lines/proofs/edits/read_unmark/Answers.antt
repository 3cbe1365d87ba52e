use Rattle.atspi_script_lines.proofs.FormLemmas.{no_unmark}
use Rattle.atspi_script_lines.proofs.edits.read_unmark.Goals as goal

pub returns-in-None : goal.returns-in-None
returns-in-None c = no_unmark c.args.bytes.now c.in-None.ensures
