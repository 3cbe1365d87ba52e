use Rattle.std.proofs.Common.{sym}
use Rattle.atspi_script_lines.proofs.NumberLemmas.{no_role_spelled}
use Rattle.atspi_script_lines.proofs.tables.read_role.Goals as goal

pub returns-in-None : goal.returns-in-None
returns-in-None c = no_role_spelled c.args.word.now c.read_number.result (sym c.in-None.ensures.first) c.read_number.ensures
