use Rattle.atspi_script_lines.proofs.FormLemmas.{no_move}
use Rattle.atspi_script_lines.proofs.edits.read_move.Goals as goal

pub returns-in-None : goal.returns-in-None
returns-in-None c = no_move c.args.bytes.now c.in-None.ensures
