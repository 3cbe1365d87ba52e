use Rattle.std.proofs.Common.{[], ◌∷◌}
use Rattle.atspi_script_lines.proofs.LeadLemmas.{rest_of}
use Rattle.atspi_script_lines.specs.Words.{number}
use Rattle.atspi_run_hit.proofs.shapes.read_two.Goals as goal

pub returns-in_default : goal.returns-in_default
returns-in_default c = λ t s. c.in_default.ensures t.0 s.0 s.1

pub returns-in-None : goal.returns-in-None
returns-in-None c = λ t s. c.in-None.ensures t.1 (rest_of (number c.in-Some.first) (number t.0) c.in-Some.rest.now c.args.bytes.now (number t.1 ∷ []) tt c.in-Some.ensures s)
