use Rattle.std.proofs.Common.{subst, arith}
use Rattle.atspi_audit_text.proofs.Cuts.{NoneIn, cut_at, no_feed_before, no_line}
use Rattle.atspi_audit_text.proofs.lines.next_line.Goals as goal

pub returns-then-b-eq10 : goal.returns-then-b-eq10
returns-then-b-eq10 c = (no_feed_before c.args.text.now c.loop-i.i c.loop-i.invariant, cut_at c.args.text.now c.loop-i.i c.loop-i-test.true c.if-b-eq10.true)

pub returns : goal.returns
returns c = λ line rest e. no_line line rest (subst NoneIn e (λ k l. c.loop-i.invariant k (omega (arith, l, c.loop-i-test.false))))
