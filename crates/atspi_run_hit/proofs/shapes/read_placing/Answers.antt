use Rattle.atspi_script_lines.proofs.LeadLemmas.{rest_of}
use Rattle.atspi_script_lines.specs.Words.{number}
use Rattle.atspi_run_hit.specs.Words.{rect_words}
use Rattle.atspi_run_hit.proofs.shapes.read_placing.Goals as goal

pub returns-in_default : goal.returns-in_default
returns-in_default c = λ p s. c.in_default.ensures p.0 s.1.0 s.1.1

pub returns-in-None : goal.returns-in-None
returns-in-None c = λ p s. c.in-None.ensures p.1 (s.0, rest_of (number c.in-Some.node) (number p.0) c.in-Some.rest.now c.args.bytes.now (rect_words p.1) tt c.in-Some.ensures s.1)
