use Rattle.std.proofs.Common.{[], ◌∷◌}
use Rattle.atspi_run_hit.specs.Words.{signed}
use Rattle.atspi_run_hit.proofs.OwnLines.{rest_of_signed}
use Rattle.atspi_run_hit.proofs.shapes.read_coordinates.Goals as goal

pub returns-in_default : goal.returns-in_default
returns-in_default c = λ t s. c.in_default.ensures t.0 s.1.0 s.0.0 s.1.1

pub returns-in-None : goal.returns-in-None
returns-in-None c = λ t s. c.in-None.ensures t.1 (s.0.1, rest_of_signed c.in-Some.x t.0 c.in-Some.rest.now c.args.bytes.now (signed t.1 ∷ []) c.in-Some.ensures.0 s.0.0 c.in-Some.ensures.1 s.1)
