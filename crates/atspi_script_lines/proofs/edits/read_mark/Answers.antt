use Rattle.atspi_script_lines.proofs.FormLemmas.{no_mark}
use Rattle.atspi_script_lines.proofs.edits.read_mark.Goals as goal

pub returns-in-None : goal.returns-in-None
returns-in-None c = no_mark c.args.bytes.now c.in-None.ensures
