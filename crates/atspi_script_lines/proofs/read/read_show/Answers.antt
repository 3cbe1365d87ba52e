use Rattle.std.proofs.Common.{[], ◌∷◌}
use Rattle.atspi_script_lines.proofs.LeadLemmas.{rest_of}
use Rattle.atspi_script_lines.specs.Words.{app_name, reader_name}
use Rattle.atspi_script_lines.proofs.FormLemmas.{no_show_line}
use Rattle.atspi_script_lines.proofs.read.read_show.Goals as goal

pub returns-in_default : goal.returns-in_default
returns-in_default c = no_show_line c.args.bytes.now (λ r a s. c.in_default.ensures r s.0 s.1)

pub returns-in-None : goal.returns-in-None
returns-in-None c = no_show_line c.args.bytes.now (λ r a s. c.in-None.ensures a (rest_of (reader_name c.in-Some.reader) (reader_name r) c.in-Some.rest.now c.args.bytes.now (app_name a ∷ []) tt c.in-Some.ensures s))
