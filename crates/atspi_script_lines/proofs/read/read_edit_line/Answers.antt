use Rattle.atspi_script_lines.proofs.LeadLemmas.{rest_of}
use Rattle.atspi_script_lines.specs.Words.{app_name}
use Rattle.atspi_script_lines.specs.Forms.{edit_form}
use Rattle.atspi_script_lines.proofs.FormLemmas.{no_edit_line}
use Rattle.atspi_script_lines.proofs.read.read_edit_line.Goals as goal

pub returns-in_default : goal.returns-in_default
returns-in_default c = no_edit_line c.args.bytes.now (λ a e k s. c.in_default.ensures a s.0 s.1)

pub returns-in-None : goal.returns-in-None
returns-in-None c = no_edit_line c.args.bytes.now (λ a e k s. (rw c.in-None.is at c.in_ok-edit.ensures) e (k, rest_of (app_name c.in-Some.app) (app_name a) c.in-Some.rest.now c.args.bytes.now (edit_form e) tt c.in-Some.ensures s))
