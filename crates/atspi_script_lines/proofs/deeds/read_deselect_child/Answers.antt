use Rattle.atspi_script_lines.proofs.FormLemmas.{no_deselect_child}
use Rattle.atspi_script_lines.proofs.deeds.read_deselect_child.Goals as goal

pub returns-in-None : goal.returns-in-None
returns-in-None c = no_deselect_child c.args.bytes.now c.in-None.ensures
