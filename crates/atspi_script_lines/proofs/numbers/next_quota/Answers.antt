use Rattle.std.proofs.Common.{arith}
use Rattle.atspi_script_lines.proofs.LeadLemmas.{great_quota, quota_number, small_quota}
use Rattle.atspi_script_lines.proofs.numbers.next_quota.Goals as goal

pub returns-in_default : goal.returns-in_default
returns-in_default c = λ n rest h. c.in_default.ensures n rest (quota_number n rest c.args.bytes.now h)

pub returns-then-n-lt-QUOTA_LEAST : goal.returns-then-n-lt-QUOTA_LEAST
returns-then-n-lt-QUOTA_LEAST c = small_quota c.in-Some.n c.in-Some.rest.now c.args.bytes.now c.in-Some.ensures (omega arith)

pub returns-then-n-gt-QUOTA_MOST : goal.returns-then-n-gt-QUOTA_MOST
returns-then-n-gt-QUOTA_MOST c = great_quota c.in-Some.n c.in-Some.rest.now c.args.bytes.now c.in-Some.ensures (omega arith)
