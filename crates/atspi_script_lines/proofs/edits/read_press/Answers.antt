use Rattle.atspi_script_lines.proofs.FormLemmas.{no_press}
use Rattle.atspi_script_lines.proofs.edits.read_press.Goals as goal

pub returns-in-None : goal.returns-in-None
returns-in-None c = no_press c.args.bytes.now c.in-None.ensures
