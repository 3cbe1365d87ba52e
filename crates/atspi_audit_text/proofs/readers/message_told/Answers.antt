use Rattle.std.proofs.Common.{sym, ap, ◌∙◌, true≢false}
use Rattle.atspi_message.specs.Envelope.{envelope_of}
use Rattle.atspi_audit_text.specs.inner.Lines.{sent_line}
use Rattle.atspi_audit_text.proofs.Messages.{one_written}
use Rattle.atspi_audit_text.proofs.readers.message_told.Goals as goal

pub returns-then-not-is_told : goal.returns-then-not-is_told
returns-then-not-is_told c = λ e w same line.
    let message = rw c.in-Some.is at c.in_ok-message.ensures in
    let one = one_written (envelope_of c.in-Some.message) e message.0 w (sym message.1 ∙ same) in
    true≢false (sym (c.in_ok-is_told.ensures.1 (line ∙ ap (sent_line c.args.reader) (sym one))) ∙ c.if-not-is_told.true)
