use Rattle.std.proofs.Common.{arith}
use Rattle.std.proofs.lemmas.Result.{err_from_is_err_and}
use Rattle.atspi_marshal_in_place.proofs.OfCodes.Checking.{nothing_stands, refused_at, taken_at, stands_last}
use Rattle.atspi_marshal_in_place.proofs.codes.parsing.walk.Goals as goal

pub loop-i-init : goal.loop-i-init
loop-i-init c = rw c.new-open.ensures (nothing_stands c.args.bytes.now)

pub returns-in_err-step : goal.returns-in_err-step
returns-in_err-step c =
    let p = err_from_is_err_and c.from_residual.result c.from_residual.ensures.1 in
    rw (p.1, p.2) (refused_at c.loop-i.open c.args.bytes.now c.loop-i.i c.in_err-step.field-0.0 (omega arith) c.loop-i.invariant c.in_err-step.ensures.0 c.in_err-step.ensures.1)

pub loop-i-preserved : goal.loop-i-preserved
loop-i-preserved c = taken_at c.loop-i.open c.step.new.self c.args.bytes.now c.loop-i.i (omega arith) c.loop-i.invariant c.in_ok-step.ensures.0 c.in_ok-step.ensures.1

pub returns : goal.returns
returns c = stands_last c.loop-i.open c.args.bytes.now c.loop-i.i c.innermost.result (omega arith) c.loop-i.invariant c.innermost.ensures
