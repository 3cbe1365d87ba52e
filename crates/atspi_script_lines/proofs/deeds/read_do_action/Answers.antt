use Rattle.atspi_script_lines.proofs.FormLemmas.{no_do_action}
use Rattle.atspi_script_lines.proofs.deeds.read_do_action.Goals as goal

pub returns-in-None : goal.returns-in-None
returns-in-None c = no_do_action c.args.bytes.now c.in-None.ensures
