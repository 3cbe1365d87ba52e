use Rattle.std.proofs.Common.{◌≡◌, ◌+◌, ◌-◌, ◌++◌, length, ap, arith}
use Rattle.std.proofs.lemmas.Grind.{common_steps}
use Rattle.std.proofs.lemmas.List.{length-append}
use Rattle.std.proofs.lemmas.Result.{err_from_is_err_and}
use Rattle.atspi_message_in_place.specs.View.{envelope_at}
use Rattle.atspi_message.specs.inner.Writing.{start_bytes, fields_bytes}
use Rattle.atspi_message_forwarding.proofs.Passing.{body_too_big, all_written, all_fits}
use Rattle.atspi_message_forwarding.proofs.writing.put_message.Goals as goal

pub returns-in_err-next-clause-big : goal.returns-in_err-next-clause-big
returns-in_err-next-clause-big c =
    let p = err_from_is_err_and c.from_residual-in_err-next.result c.from_residual-in_err-next.ensures.1 in
    rw (p.1, p.2) (body_too_big (envelope_at c.args.m.now) c.args.out.now c.put_header.new.out c.put_padding.new.out c.put_body.new.out c.in_ok-end.end c.in_ok-place.place c.in_err-next.field-0.0 c.in_ok-end.ensures.writes c.in_ok-place.ensures.pads c.in_err-next.ensures.writes)

pub returns-clause-ok : goal.returns-clause-ok
returns-clause-ok c =
    let m = c.args.m.now in
    let e = envelope_at m in
    let header = start_bytes e ++ fields_bytes e in
    let index = c.len.result - c.in_ok-end.end + 4 in
    let at : index ≡ length c.args.out.now + 4 = omega (arith, c.len.ensures, ap length c.in_ok-end.ensures.writes.appended, length-append c.args.out.now header, c.in_ok-end.ensures.writes.place) in
    all_written e m.body_bytes.now c.args.out.now c.put_header.new.out c.put_padding.new.out c.put_body.new.out c.in_ok-end.end c.in_ok-place.place c.in_ok-next.next c.in_ok-end.ensures.writes c.in_ok-place.ensures.pads c.in_ok-next.ensures.writes
    index c.set_u32.new.out m.lies at c.set_u32.ensures

pub returns-clause-fits : goal.returns-clause-fits
returns-clause-fits c =
    let m = c.args.m.now in
    all_fits (envelope_at m) m.body_bytes.now c.args.out.now c.put_header.new.out c.put_padding.new.out c.put_body.new.out c.in_ok-end.end c.in_ok-place.place c.in_ok-next.next c.in_ok-end.ensures.writes c.in_ok-place.ensures.pads c.in_ok-next.ensures.writes
    m.lies c.in_ok-end.ensures.widths

pub put_header-requires : goal.put_header-requires
put_header-requires c = grind (arith, common_steps)

pub returns-in_err-end-clause-ok : goal.returns-in_err-end-clause-ok
returns-in_err-end-clause-ok c = grind (arith, common_steps)

pub returns-in_err-end-clause-fits : goal.returns-in_err-end-clause-fits
returns-in_err-end-clause-fits c = grind (arith, common_steps)

pub returns-in_err-end-clause-big : goal.returns-in_err-end-clause-big
returns-in_err-end-clause-big c = grind (arith, common_steps)

pub overflow_sub-index : goal.overflow_sub-index
overflow_sub-index c = grind (arith, common_steps)

pub overflow_add-index : goal.overflow_add-index
overflow_add-index c = grind (arith, common_steps)

pub put_padding-requires-clause-align : goal.put_padding-requires-clause-align
put_padding-requires-clause-align c = grind (arith, common_steps)

pub put_padding-requires-clause-place : goal.put_padding-requires-clause-place
put_padding-requires-clause-place c = grind (arith, common_steps)

pub returns-in_err-place-clause-ok : goal.returns-in_err-place-clause-ok
returns-in_err-place-clause-ok c = grind (arith, common_steps)

pub returns-in_err-place-clause-fits : goal.returns-in_err-place-clause-fits
returns-in_err-place-clause-fits c = grind (arith, common_steps)

pub returns-in_err-place-clause-big : goal.returns-in_err-place-clause-big
returns-in_err-place-clause-big c = grind (arith, common_steps)

pub put_body-requires-clause-place : goal.put_body-requires-clause-place
put_body-requires-clause-place c = grind (arith, common_steps)

pub returns-in_err-next-clause-ok : goal.returns-in_err-next-clause-ok
returns-in_err-next-clause-ok c = grind (arith, common_steps)

pub returns-in_err-next-clause-fits : goal.returns-in_err-next-clause-fits
returns-in_err-next-clause-fits c = grind (arith, common_steps)

pub overflow_sub-next : goal.overflow_sub-next
overflow_sub-next c = grind (arith, common_steps)

pub overflow_cast-next : goal.overflow_cast-next
overflow_cast-next c = grind (arith, common_steps)

pub set_u32-requires : goal.set_u32-requires
set_u32-requires c = grind (arith, common_steps)

pub returns-clause-big : goal.returns-clause-big
returns-clause-big c = grind (arith, common_steps)
