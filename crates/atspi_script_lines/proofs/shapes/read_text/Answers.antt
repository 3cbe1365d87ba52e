use Rattle.std.proofs.Common.{rules}
use Rattle.atspi_script_lines.proofs.LeadLemmas.{not_end}
use Rattle.atspi_script_lines.specs.Words.{quote}
use Rattle.atspi_script_lines.proofs.shapes.read_text.Goals as goal

pub returns-in_default : goal.returns-in_default
returns-in_default c = λ t s. (rw c.in_default.is at c.in_ok-text.ensures) t s.0 s.1

pub returns-then-not-is_empty : goal.returns-then-not-is_empty
returns-then-not-is_empty c = λ t s. not_end (quote c.in-Some.text) (quote t) c.in-Some.rest.now c.args.bytes.now tt (rw c.in-Some.is at c.in_ok-text.ensures) (search rules) s
