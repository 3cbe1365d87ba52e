use Rattle.std.proofs.Common.{arith}
use Rattle.std.proofs.lemmas.Grind.{common_steps}
use Rattle.std.proofs.lemmas.Result.{err_from_is_err_and}
use Rattle.atspi_message_in_place.specs.View.{envelope_at}
use Rattle.atspi_message.proofs.MessageWriting.{fields_refused, header_written}
use Rattle.atspi_message_forwarding.proofs.writing.put_header.Goals as goal

pub returns-in_err-next-clause-writes : goal.returns-in_err-next-clause-writes
returns-in_err-next-clause-writes c =
    let p = err_from_is_err_and c.from_residual-in_err-next.result c.from_residual-in_err-next.ensures.1 in
    rw (p.1, p.2) (fields_refused (envelope_at c.args.m.now) c.in_ok-first.first c.args.out.now c.put_start.new.out c.begin_array.new.out c.put_fields.new.out c.in_err-next.field-0.0 c.in_ok-put_start.ensures.ok c.in_ok-first.ensures.writes c.in_err-next.ensures)

pub returns-clause-writes : goal.returns-clause-writes
returns-clause-writes c =
    header_written (envelope_at c.args.m.now) c.in_ok-first.first c.in_ok-next.next c.len-index.result c.args.out.now c.put_start.new.out c.begin_array.new.out c.put_fields.new.out c.end_array.new.out c.in_ok-put_start.ensures.ok c.in_ok-first.ensures.writes c.in_ok-next.ensures
    c.len-index.ensures c.in_ok-end_array.ensures.ok c.in_ok-end_array.ensures.short

pub returns-in_err-put_start-clause-writes : goal.returns-in_err-put_start-clause-writes
returns-in_err-put_start-clause-writes c = grind (arith, common_steps)

pub returns-in_err-put_start-clause-front : goal.returns-in_err-put_start-clause-front
returns-in_err-put_start-clause-front c = grind (arith, common_steps)

pub returns-in_err-put_start-clause-widths : goal.returns-in_err-put_start-clause-widths
returns-in_err-put_start-clause-widths c = grind (arith, common_steps)

pub begin_array-requires-clause-align : goal.begin_array-requires-clause-align
begin_array-requires-clause-align c = grind (arith, common_steps)

pub begin_array-requires-clause-place : goal.begin_array-requires-clause-place
begin_array-requires-clause-place c = grind (arith, common_steps)

pub returns-in_err-first-clause-writes : goal.returns-in_err-first-clause-writes
returns-in_err-first-clause-writes c = grind (arith, common_steps)

pub returns-in_err-first-clause-front : goal.returns-in_err-first-clause-front
returns-in_err-first-clause-front c = grind (arith, common_steps)

pub returns-in_err-first-clause-widths : goal.returns-in_err-first-clause-widths
returns-in_err-first-clause-widths c = grind (arith, common_steps)

pub put_fields-requires-clause-place : goal.put_fields-requires-clause-place
put_fields-requires-clause-place c = grind (arith, common_steps)

pub put_fields-requires-clause-typed : goal.put_fields-requires-clause-typed
put_fields-requires-clause-typed c = grind (arith, common_steps)

pub returns-in_err-next-clause-front : goal.returns-in_err-next-clause-front
returns-in_err-next-clause-front c = grind (arith, common_steps)

pub returns-in_err-next-clause-widths : goal.returns-in_err-next-clause-widths
returns-in_err-next-clause-widths c = grind (arith, common_steps)

pub overflow_sub-next : goal.overflow_sub-next
overflow_sub-next c = grind (arith, common_steps)

pub end_array-requires : goal.end_array-requires
end_array-requires c = grind (arith, common_steps)

pub returns-in_err-end_array-clause-writes : goal.returns-in_err-end_array-clause-writes
returns-in_err-end_array-clause-writes c = grind (arith, common_steps)

pub returns-in_err-end_array-clause-front : goal.returns-in_err-end_array-clause-front
returns-in_err-end_array-clause-front c = grind (arith, common_steps)

pub returns-in_err-end_array-clause-widths : goal.returns-in_err-end_array-clause-widths
returns-in_err-end_array-clause-widths c = grind (arith, common_steps)

pub returns-clause-front : goal.returns-clause-front
returns-clause-front c = grind (arith, common_steps)

pub returns-clause-widths : goal.returns-clause-widths
returns-clause-widths c = grind (arith, common_steps)
