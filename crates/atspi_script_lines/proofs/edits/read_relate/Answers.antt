use Rattle.atspi_script_lines.proofs.FormLemmas.{no_relate}
use Rattle.atspi_script_lines.proofs.edits.read_relate.Goals as goal

pub returns-in-None : goal.returns-in-None
returns-in-None c = no_relate c.args.bytes.now c.in-None.ensures
