use Rattle.atspi_script_lines.proofs.FormLemmas.{no_delete_text}
use Rattle.atspi_script_lines.proofs.deeds.read_delete_text.Goals as goal

pub returns-in-None : goal.returns-in-None
returns-in-None c = no_delete_text c.args.bytes.now c.in-None.ensures
