use Rattle.atspi_audit_text.proofs.Messages.{not_short, not_wrong, states}
use Rattle.atspi_audit_text.proofs.wire.message_of.Goals as goal

pub returns-in_default : goal.returns-in_default
returns-in_default c = λ e is. not_short e c.args.bytes.now is c.in_default.ensures.cases

pub returns-in-Err : goal.returns-in-Err
returns-in-Err c = λ e is. not_wrong e c.args.bytes.now is c.in-Some.front.now c.in-Err.field-0.place c.in-Err.field-0.reason c.in-Some.ensures.cases.same c.in-Err.ensures.first

pub returns-then-len-bytes : goal.returns-then-len-bytes
returns-then-len-bytes c = λ e is. c.if-len-bytes.true (states e c.args.bytes.now is c.in-Some.front.now c.in-Ok.len c.in-Some.ensures.cases.same c.in-Ok.ensures.length)

pub returns-in-Err-Bad : goal.returns-in-Err-Bad
returns-in-Err-Bad c = λ e is. (rw c.in-Err-Bad.field-0-is at c.in-Err-Bad.ensures.only) e is
