use Rattle.atspi_script_lines.proofs.ClauseLemmas.{select_in, select_out}
use Rattle.atspi_script_lines.proofs.inserts.split_select.Goals as goal

pub returns-in-Some : goal.returns-in-Some
returns-in-Some c = select_in c.in-Some.rest.now c.args.bytes.now c.in-Some.ensures

pub returns-in-None : goal.returns-in-None
returns-in-None c = select_out c.args.bytes.now c.in-None.ensures
