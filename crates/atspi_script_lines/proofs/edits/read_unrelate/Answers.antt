use Rattle.atspi_script_lines.proofs.FormLemmas.{no_unrelate}
use Rattle.atspi_script_lines.proofs.edits.read_unrelate.Goals as goal

pub returns-in-None : goal.returns-in-None
returns-in-None c = no_unrelate c.args.bytes.now c.in-None.ensures
