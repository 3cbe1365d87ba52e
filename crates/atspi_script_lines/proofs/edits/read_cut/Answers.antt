use Rattle.atspi_script_lines.proofs.FormLemmas.{no_cut}
use Rattle.atspi_script_lines.proofs.edits.read_cut.Goals as goal

pub returns-in-None : goal.returns-in-None
returns-in-None c = no_cut c.args.bytes.now c.in-None.ensures
