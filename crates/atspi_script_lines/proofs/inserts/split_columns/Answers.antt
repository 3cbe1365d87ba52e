use Rattle.atspi_script_lines.proofs.ClauseLemmas.{columns_bad, columns_in, columns_out}
use Rattle.atspi_script_lines.proofs.inserts.split_columns.Goals as goal

pub returns-in_default : goal.returns-in_default
returns-in_default c = columns_out c.args.bytes.now c.in_default.ensures

pub returns-in-Some-next_number : goal.returns-in-Some-next_number
returns-in-Some-next_number c = columns_in c.in-Some-next_number.count c.in-Some.behind.now c.in-Some-next_number.rest.now c.args.bytes.now c.in-Some.ensures c.in-Some-next_number.ensures

pub returns-in-None : goal.returns-in-None
returns-in-None c = columns_bad c.in-Some.behind.now c.args.bytes.now c.in-Some.ensures c.in-None.ensures
