use Rattle.std.proofs.Common.{◌≡◌, ap, sym, ◌∙◌}
use Rattle.atspi_message.specs.Envelope.{envelope_of}
use Rattle.atspi_message.specs.Bytes.{written}
use Rattle.atspi_audit_text.specs.inner.Lines.{sent_line}
use Rattle.atspi_audit_text.proofs.Fronts.{has_line, names, one_cut, stands}
use Rattle.atspi_audit_text.proofs.readers.next_of_reader.Goals as goal

pub returns-in_default : goal.returns-in_default
returns-in_default c = λ reader message rest h e. c.in_default.ensures reader _ (names reader message rest c.args.text.now h e)

pub returns-in_default-2 : goal.returns-in_default-2
returns-in_default-2 c = λ reader message rest h e.
    (rw c.in_default-2.is at c.in_ok-line.ensures) (sent_line reader (envelope_of message)) (written (envelope_of message)) rest (has_line reader message rest c.args.text.now h e)

pub returns-in-Some-3 : goal.returns-in-Some-3
returns-in-Some-3 c =
    let cut = rw c.in-Some-2.is at c.in_ok-line.ensures in
    let told = rw c.in-Some-3.is at c.in_ok-message.ensures in
    let message = c.in-Some-3.message in
    let b : c.in-Some-2.bytes ≡ written (envelope_of message) = sym c.as_slice.ensures ∙ told.1 in
    ((c.in-Some.ensures.0, told.0), b, stands c.in-Some.reader message c.in-Some-2.line.now c.in-Some-2.bytes c.in-Some-2.rest.now c.args.text.now cut b told.2)

pub returns : goal.returns
returns c = λ reader message rest h e.
    let same = c.in-Some.ensures.1 reader _ (names reader message rest c.args.text.now h e) in
    let found = rw c.in-Some-2.is at c.in_ok-line.ensures in
    let cut =
    one_cut c.in-Some-2.line.now (sent_line reader (envelope_of message)) c.in-Some-2.bytes (written (envelope_of message)) c.in-Some-2.rest.now rest c.args.text.now found
    (has_line reader message rest c.args.text.now h e) in
    (rw c.in-None.is at c.in_ok-message.ensures) (envelope_of message) h.1 (c.as_slice.ensures ∙ cut.bytes) (cut.line ∙ ap (λ r. sent_line r (envelope_of message)) same)
