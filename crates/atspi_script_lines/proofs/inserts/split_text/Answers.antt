use Rattle.std.proofs.Common.{true, false}
use Rattle.atspi_script_lines.proofs.ClauseLemmas.{text_bad, text_in, text_out}
use Rattle.atspi_script_lines.proofs.inserts.split_text.Goals as goal

pub returns-in-Some-2 : goal.returns-in-Some-2
returns-in-Some-2 c = text_in true c.in-Some-2.text c.in-Some.behind.now c.in-Some-2.rest.now c.args.bytes.now c.in-Some.ensures (rw c.in-Some-2.is at c.in_ok-text.ensures)

pub returns-in-None : goal.returns-in-None
returns-in-None c = text_bad true c.in-Some.behind.now c.args.bytes.now c.in-Some.ensures (rw c.in-None.is at c.in_ok-text.ensures)

pub returns-in-Some-3 : goal.returns-in-Some-3
returns-in-Some-3 c = text_in false c.in-Some-3.text c.in-Some-behind_literal.behind.now c.in-Some-3.rest.now c.args.bytes.now c.in-Some-behind_literal.ensures (rw c.in-Some-3.is at c.in_ok-text-2.ensures)

pub returns-in-None-2 : goal.returns-in-None-2
returns-in-None-2 c = text_bad false c.in-Some-behind_literal.behind.now c.args.bytes.now c.in-Some-behind_literal.ensures (rw c.in-None-2.is at c.in_ok-text-2.ensures)

pub returns : goal.returns
returns c = text_out c.args.bytes.now c.in_default.ensures c.in_default-behind_literal.ensures
