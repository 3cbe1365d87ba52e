use Rattle.std.proofs.Common.{rules}
use Rattle.atspi_script_lines.proofs.LeadLemmas.{not_end}
use Rattle.atspi_script_lines.specs.Words.{quota}
use Rattle.atspi_script_lines.proofs.FormLemmas.{no_quota_line}
use Rattle.atspi_script_lines.proofs.read.read_quota.Goals as goal

pub returns-in_default : goal.returns-in_default
returns-in_default c = no_quota_line c.args.bytes.now (λ t s. c.in_default.ensures t s.0 s.1)

pub returns-then-not-is_empty : goal.returns-then-not-is_empty
returns-then-not-is_empty c = no_quota_line c.args.bytes.now (λ t s. not_end (quota c.in-Some.n) (quota t) c.in-Some.rest.now c.args.bytes.now tt c.in-Some.ensures (search rules) s)
