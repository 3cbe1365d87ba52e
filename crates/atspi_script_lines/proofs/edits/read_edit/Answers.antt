use Rattle.atspi_script_lines.proofs.FormLemmas.{edit_read}
use Rattle.atspi_script_lines.proofs.edits.read_edit.Goals as goal

pub returns : goal.returns
returns c = edit_read c.in-Some.word.now c.in-Some.rest.now c.args.bytes.now c.read_edit_of.result c.in-Some.ensures.0 c.in-Some.ensures.1 c.read_edit_of.ensures
