use Rattle.std.proofs.Common.{rules}
use Rattle.atspi_run_hit.proofs.OwnLines.{rect_allowed, rect_point}
use Rattle.atspi_run_hit.proofs.shapes.read_rect.Goals as goal

pub returns-in_default : goal.returns-in_default
returns-in_default c = λ r s. c.in_default.ensures r (rect_point r s.0, s.1)

pub returns-then-not-is_allowed : goal.returns-then-not-is_allowed
returns-then-not-is_allowed c = λ r s. let yes = c.is_allowed.ensures.1 (rect_allowed c.in-Some.rect r c.args.bytes.now c.in-Some.ensures.0 s.0 c.in-Some.ensures.1 s.1) in search (rules, yes)
