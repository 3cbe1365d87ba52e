use Rattle.std.proofs.Common.{rules}
use Rattle.atspi_script_lines.proofs.LeadLemmas.{not_end}
use Rattle.atspi_run_hit.specs.Words.{signed}
use Rattle.atspi_run_hit.proofs.Signed.{no_space}
use Rattle.atspi_run_hit.proofs.shapes.read_last_signed.Goals as goal

pub returns-in_default : goal.returns-in_default
returns-in_default c = λ z s. c.in_default.ensures z s.1.0 s.0 s.1.1

pub returns-then-not-is_empty : goal.returns-then-not-is_empty
returns-then-not-is_empty c = λ z s. not_end (signed c.in-Some.z) (signed z) c.in-Some.rest.now c.args.bytes.now (no_space c.in-Some.z c.in-Some.ensures.0, no_space z s.0) c.in-Some.ensures.1 (search rules) s.1
