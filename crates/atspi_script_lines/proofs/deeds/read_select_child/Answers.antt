use Rattle.atspi_script_lines.proofs.FormLemmas.{no_select_child}
use Rattle.atspi_script_lines.proofs.deeds.read_select_child.Goals as goal

pub returns-in-None : goal.returns-in-None
returns-in-None c = no_select_child c.args.bytes.now c.in-None.ensures
