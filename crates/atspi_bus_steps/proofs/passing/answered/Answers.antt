use Rattle.atspi_bus_steps.specs.declared.open_call.OpenCall.{OpenCall}
use Rattle.atspi_bus_steps.proofs.Calls.{past_hit}
use Rattle.atspi_bus_steps.proofs.passing.answered.Goals as goal

pub returns-then-call-callee : goal.returns-then-call-callee
returns-then-call-callee c =
    let d : OpenCall = record { caller = 0; serial = 0; callee = 0 } in
    (c.loop-i-test.true, past_hit c.args.caller c.args.serial c.args.callee c.args.calls.now c.loop-i.i d c.loop-i-test.true c.if-call-caller.true c.if-call-serial.true c.if-call-callee.true c.loop-i.invariant)
