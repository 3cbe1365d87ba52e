use Rattle.atspi_script_lines.proofs.FormLemmas.{no_deselect}
use Rattle.atspi_script_lines.proofs.edits.read_deselect.Goals as goal

pub returns-in-None : goal.returns-in-None
returns-in-None c = no_deselect c.args.bytes.now c.in-None.ensures
