use Rattle.atspi_script_lines.proofs.FormLemmas.{deed_read}
use Rattle.atspi_script_lines.proofs.deeds.read_deed.Goals as goal

pub returns : goal.returns
returns c = deed_read c.in-Some.word.now c.in-Some.rest.now c.args.bytes.now c.read_deed_of.result c.in-Some.ensures.0 c.in-Some.ensures.1 c.read_deed_of.ensures
