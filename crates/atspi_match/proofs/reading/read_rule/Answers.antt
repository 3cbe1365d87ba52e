use Rattle.atspi_match.proofs.ReadingLemmas.{spelled_long, long_first, told_first}
use Rattle.atspi_match.proofs.reading.read_rule.Goals as goal

pub returns-then-bytes-gt-LIMIT-clause-first : goal.returns-then-bytes-gt-LIMIT-clause-first
returns-then-bytes-gt-LIMIT-clause-first c = spelled_long c.args.bytes.now c.in-Ok.conditions.items c.in-Ok.ensures.ok c.if-bytes-gt-LIMIT.true

pub returns-then-place-gt-LIMIT-clause-first : goal.returns-then-place-gt-LIMIT-clause-first
returns-then-place-gt-LIMIT-clause-first c =
    long_first c.args.bytes.now c.in-Err-Bad.place c.in-Err-Bad.reason (rw c.in-Err-Bad.field-0-is at c.in-Err-Bad.ensures.bad) c.if-bytes-gt-LIMIT-2.true c.if-place-gt-LIMIT.true
