use Rattle.std.proofs.Common.{sym, ◌∙◌, arith, true≢false}
use Rattle.atspi_message.specs.Envelope.{envelope_of}
use Rattle.atspi_audit_text.proofs.Messages.{can_be_written, is_message, is_same}
use Rattle.atspi_audit_text.proofs.wire.written_as.Goals as goal

pub returns-in_default : goal.returns-in_default
returns-in_default c = λ e w same. (rw c.in_default.is at c.in_ok-message.ensures) e (is_message e c.args.bytes.now w same)

pub returns-then-not-is_own : goal.returns-then-not-is_own
returns-then-not-is_own c = λ e w same.
    let message = rw c.in-Some.is at c.in_ok-message.ensures in
    let is = is_same e (envelope_of c.in-Some.message) c.args.bytes.now (λ i. omega (arith, c.type_inv.bytes i)) w same message in
    true≢false (sym (c.in_ok-is_own.ensures.1 (is.1, is.2)) ∙ c.if-not-is_own.true)

pub returns : goal.returns
returns c =
    let message = rw c.in-Some.is at c.in_ok-message.ensures in
    let own = c.in_ok-is_own.ensures.0 c.if-not-is_own.false in
    (can_be_written (envelope_of c.in-Some.message) c.args.bytes.now (λ i. omega (arith, c.type_inv.bytes i)) message own.0 own.1, own.1)
