use Rattle.hex.specs.Hex.{encode_lower}
use Rattle.atspi_audit_text.proofs.Messages.{same_digits}
use Rattle.atspi_audit_text.proofs.Fronts.{line_of}
use Rattle.atspi_audit_text.proofs.wire.next_bytes.Goals as goal

pub returns-in_default-digits_in : goal.returns-in_default-digits_in
returns-in_default-digits_in c = λ bytes rest are e.
    c.in_default-digits_in.ensures (encode_lower bytes) (line_of bytes rest c.args.text.now c.in-Some.line.now c.in-Some.rest.now c.in-Some.ensures.0 c.in-Some.ensures.1 e)

pub returns-in-None : goal.returns-in-None
returns-in-None c = λ bytes rest are e.
    let line = line_of bytes rest c.args.text.now c.in-Some.line.now c.in-Some.rest.now c.in-Some.ensures.0 c.in-Some.ensures.1 e in
    (rw c.in-None.is at c.in_ok-bytes.ensures) bytes are (same_digits c.in-Some.line.now c.in-Some-digits_in.digits.now bytes c.in-Some-digits_in.ensures line)
