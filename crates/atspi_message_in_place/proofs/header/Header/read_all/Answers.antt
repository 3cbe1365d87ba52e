use Rattle.std.proofs.Common.{◌<◌, ◌-◌, arith, rules}
use Rattle.atspi_types.specs.declared.fault.ReadFault.TheVariants as faults
use Rattle.atspi_marshal.specs.Reading.{input_of}
use Rattle.atspi_message.specs.inner.Reading.{none_found, all_fields_at}
use Rattle.atspi_message.proofs.Loops.{goes_on, fails_at, full}
use Rattle.atspi_message_in_place.specs.View.{found_in}
use Rattle.atspi_message_in_place.proofs.header.Header.read_all.Goals as goal

pub returns-then-at-bound : goal.returns-then-at-bound
returns-then-at-bound c =
    let i = input_of c.args.input.now in
    full i c.args.bound (c.args.bound.end - c.loop.counter) c.loop.at (found_in c.loop.header) (all_fields_at i c.args.bound c.args.bound.end none_found 16) (omega (arith, c.if-at-bound.true)) c.loop.invariant.1

pub returns-in_err-at : goal.returns-in_err-at
returns-in_err-at c =
    let i = input_of c.args.input.now in
    let room : c.loop.at < c.args.bound.end = omega (arith, c.loop.invariant.0, c.if-at-bound.false) in
    let h = fails_at (faults.Bad c.in_err-at.field-0.0) i c.args.bound c.args.bound.end c.loop.counter c.loop.at (found_in c.loop.header) (all_fields_at i c.args.bound c.args.bound.end none_found 16) c.loop-test.true room c.in_err-at.ensures.read c.loop.invariant.1 in search (rules, h)

pub loop-preserved : goal.loop-preserved
loop-preserved c =
    let i = input_of c.args.input.now in
    let room : c.loop.at < c.args.bound.end = omega (arith, c.loop.invariant.0, c.if-at-bound.false) in (
      c.in_ok-at.ensures.within.1,
      goes_on i c.args.bound c.args.bound.end c.loop.counter c.loop.at (found_in c.loop.header) (found_in c.read.new.self) c.in_ok-at.at (all_fields_at i c.args.bound c.args.bound.end none_found 16) c.loop-test.true room c.in_ok-at.ensures.read c.loop.invariant.1,
    )
