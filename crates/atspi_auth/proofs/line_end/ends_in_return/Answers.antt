use Rattle.std.proofs.Common.{sym, ◌∙◌}
use Rattle.atspi_auth.proofs.LinesLemmas.{ends_in_return-last, ends_in_return-none}
use Rattle.atspi_auth.proofs.line_end.ends_in_return.Goals as goal

pub returns-then-not-is_empty : goal.returns-then-not-is_empty
returns-then-not-is_empty c = sym (ends_in_return-last c.args.bytes.now)

pub returns-else-not-is_empty : goal.returns-else-not-is_empty
returns-else-not-is_empty c = rw c.if-not-is_empty.false (sym (ends_in_return-none c.args.bytes.now (sym c.is_empty.ensures ∙ c.if-not-is_empty.false)))
