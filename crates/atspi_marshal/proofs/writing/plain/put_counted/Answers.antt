use Rattle.std.proofs.lemmas.Grind.{common_steps}
use Rattle.std.proofs.lemmas.Result.{err_from_is_err_and}
use Rattle.std.proofs.Common.{length, ◌+◌, arith}
use Rattle.atspi_marshal.specs.Spelling.{counted}
use Rattle.atspi_marshal.proofs.WritingSteps.{Pads-refused, counted_room, counted_written}
use Rattle.atspi_marshal.proofs.writing.plain.put_counted.Goals as goal

pub returns-in_err-place-clause-writes : goal.returns-in_err-place-clause-writes
returns-in_err-place-clause-writes c =
    let p = err_from_is_err_and c.from_residual.result c.from_residual.ensures.1 in
    rw (p.1, p.2) (Pads-refused (Unit {0}) (counted c.args.order c.args.at c.args.bytes.now) 4 c.args.at (length c.args.bytes.now + 5) c.args.at c.args.out.now c.put_padding.new.out c.args.out.now c.put_padding.new.out c.in_err-place.field-0.0 (counted_room c.args.order c.args.at c.args.bytes.now) c.in_err-place.ensures.pads)

pub returns-clause-writes : goal.returns-clause-writes
returns-clause-writes c = counted_written c.args.order c.args.at c.in_ok-place.place c.args.bytes.now c.args.out.now c.put_padding.new.out c.append_u32.new.out c.extend.new.self c.push.new.self c.in_ok-place.ensures.pads c.in_ok-append_u32.ensures.ok c.in_ok-extend.ensures.ok c.in_ok-push.ensures.ok

pub returns-in_err-extend-clause-front : goal.returns-in_err-extend-clause-front
returns-in_err-extend-clause-front c = grind (arith, common_steps)

pub returns-in_err-push-clause-front : goal.returns-in_err-push-clause-front
returns-in_err-push-clause-front c = grind (arith, common_steps)

pub returns-clause-front : goal.returns-clause-front
returns-clause-front c = grind (arith, common_steps)
