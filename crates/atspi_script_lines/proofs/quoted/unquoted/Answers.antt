use Rattle.std.proofs.Common.{◌≡◌, ◌<◌, length, drop, arith, sym, ◌∙◌}
use Rattle.std.proofs.Common.{length-drop, ◌+◌, ◌-◌}
use Rattle.std.proofs.lemmas.List.{take_rest}
use Rattle.atspi_script_lines.proofs.PartLemmas.{byte_read}
use Rattle.atspi_script_lines.proofs.QuoteLemmas.{at_drop, not_closed, not_escaped, plain_read}
use Rattle.atspi_script_lines.proofs.quoted.unquoted.Goals as goal

pub loop-at-preserved-then-plain-gt0 : goal.loop-at-preserved-then-plain-gt0
loop-at-preserved-then-plain-gt0 c =
    let inner = c.in-Some.inner.now in
    let plain = rw (take_rest inner c.loop-at.at) at c.plain_front-plain.ensures.plain in
    let within = rw (take_rest inner c.loop-at.at) at c.plain_front-plain.ensures.within in
    record {
      done = plain_read inner c.loop-at.out.items c.extend_from_slice.new.self.items c.loop-at.at c.plain_front-plain.result (c.loop-at.at + c.plain_front-plain.result - c.loop-at.at) (omega arith) c.loop-at.invariant.done plain c.in_ok-extend_from_slice.ensures.items;
      within = omega (arith, within, length-drop c.loop-at.at inner);
    }

pub returns-in_default-first_byte : goal.returns-in_default-first_byte
returns-in_default-first_byte c =
    let inner = c.in-Some.inner.now in
    let some : 0 < length (drop c.loop-at.at inner) = omega (arith, length-drop c.loop-at.at inner) in
    not_escaped inner c.loop-at.out.items (drop c.loop-at.at inner) c.args.bytes.now c.in-Some.ensures c.loop-at.invariant.done some
    (λ e. c.if-inner-at-ne34.true (sym (at_drop inner c.loop-at.at) ∙ e))
    (λ b tail h. c.in_default-first_byte.ensures b tail (take_rest inner c.loop-at.at ∙ h))

pub returns-then-at-inner : goal.returns-then-at-inner
returns-then-at-inner c =
    let inner = c.in-Some.inner.now in
    let none : length (drop c.loop-at.at inner) ≡ 0 = omega (arith, length-drop c.loop-at.at inner) in
    not_closed inner c.loop-at.out.items (drop c.loop-at.at inner) c.args.bytes.now c.in-Some.ensures c.loop-at.invariant.done none

pub loop-at-preserved : goal.loop-at-preserved
loop-at-preserved c =
    let inner = c.in-Some.inner.now in
    let starts = rw (take_rest inner c.loop-at.at) at c.in-Some-first_byte.ensures in
    record {
      done = byte_read inner c.loop-at.out.items c.push.new.self.items c.loop-at.at c.in-Some-first_byte.byte c.in-Some-first_byte.len c.loop-at.invariant.done starts c.in_ok-push.ensures.items;
      within = omega (arith, starts.within, length-drop c.loop-at.at inner);
    }
