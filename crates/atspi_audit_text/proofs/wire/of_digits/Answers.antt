use Rattle.std.proofs.Common.{sym, ap, ◌∙◌}
use Rattle.hex.specs.Hex.{encode_lower}
use Rattle.atspi_audit_text.proofs.Messages.{are_bytes, in_lower, not_refused, not_same, same_if}
use Rattle.atspi_audit_text.proofs.wire.of_digits.Goals as goal

pub returns-in_default : goal.returns-in_default
returns-in_default c = λ bytes are e. not_refused c.args.digits.now bytes are e (rw c.in_default.is at c.in_ok-bytes.ensures)

pub returns-then-ne : goal.returns-then-ne
returns-then-ne c = λ bytes are e.
    let decoded = rw c.in-Some.is at c.in_ok-bytes.ensures in
    let lower = c.as_bytes.ensures.value ∙ c.in_ok-lower.ensures ∙ ap encode_lower c.as_slice.ensures.value in
    not_same c.as_bytes.result.now c.args.digits.now c.ne.result c.ne.ensures c.if-ne.true (in_lower c.args.digits.now bytes c.in-Some.bytes.items c.as_bytes.result.now are e decoded lower)

pub returns : goal.returns
returns c =
    let decoded = rw c.in-Some.is at c.in_ok-bytes.ensures in
    let lower = c.as_bytes.ensures.value ∙ c.in_ok-lower.ensures ∙ ap encode_lower c.as_slice.ensures.value in
    (are_bytes c.args.digits.now c.in-Some.bytes.items decoded, sym (same_if c.as_bytes.result.now c.args.digits.now c.ne.result c.ne.ensures c.if-ne.false) ∙ lower)
