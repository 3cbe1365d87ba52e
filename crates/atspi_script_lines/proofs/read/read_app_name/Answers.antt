use Rattle.std.proofs.Common.{rules}
use Rattle.atspi_script_lines.proofs.LeadLemmas.{not_end}
use Rattle.atspi_script_lines.specs.Words.{app_name}
use Rattle.atspi_script_lines.proofs.read.read_app_name.Goals as goal

pub returns-in_default : goal.returns-in_default
returns-in_default c = λ t s. c.in_default.ensures t s.0 s.1

pub returns-then-not-is_empty : goal.returns-then-not-is_empty
returns-then-not-is_empty c = λ t s. not_end (app_name c.in-Some.app) (app_name t) c.in-Some.rest.now c.args.bytes.now tt c.in-Some.ensures (search rules) s
