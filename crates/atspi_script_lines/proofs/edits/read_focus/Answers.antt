use Rattle.atspi_script_lines.proofs.FormLemmas.{no_focus}
use Rattle.atspi_script_lines.proofs.edits.read_focus.Goals as goal

pub returns-in-None : goal.returns-in-None
returns-in-None c = no_focus c.args.bytes.now c.in-None.ensures
