use Rattle.std.proofs.Common.{[], ◌∷◌}
use Rattle.atspi_script_lines.specs.Words.{number}
use Rattle.atspi_run_hit.specs.Words.{signed}
use Rattle.atspi_run_hit.proofs.OwnLines.{rest_of_signed}
use Rattle.atspi_run_hit.proofs.shapes.read_any_rect.Goals as goal

pub returns-in_default : goal.returns-in_default
returns-in_default c = λ r s. c.in_default.ensures r.x s.1.0 s.0.0 s.1.1

pub returns-in-None : goal.returns-in-None
returns-in-None c = λ r s. c.in-None.ensures (r.y, r.w, r.h) (s.0.1, rest_of_signed c.in-Some.x r.x c.in-Some.rest.now c.args.bytes.now (signed r.y ∷ number r.w ∷ number r.h ∷ []) c.in-Some.ensures.0 s.0.0 c.in-Some.ensures.1 s.1)
