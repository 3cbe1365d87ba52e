use Rattle.atspi_script_lines.proofs.FormLemmas.{no_select}
use Rattle.atspi_script_lines.proofs.edits.read_select.Goals as goal

pub returns-in-None : goal.returns-in-None
returns-in-None c = no_select c.args.bytes.now c.in-None.ensures
