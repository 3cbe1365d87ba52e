use Rattle.std.proofs.Common.{◌≡◌, Some, Err, ap, ◌∙◌, subst}
use Rattle.atspi_message.specs.Bytes.{written}
use Rattle.atspi_bus_steps.specs.InnerBus.{inner_of}
use Rattle.atspi_world_moves.specs.declared.fault.CarryFault.TheVariants.{Spent}
use Rattle.atspi_world_moves.specs.inner.Routed.{IsSpentTaking, IsTaken}
use Rattle.atspi_world_moves.proofs.up.take_front.Goals as goal

pub returns-in-None-clause-takes : goal.returns-in-None-clause-takes
returns-in-None-clause-takes c = λ m rest is front. absurd (c.in-None.ensures.given m (written m) rest is (c.as_slice.ensures ∙ front))

pub returns-in-Ok-clause-takes : goal.returns-in-Ok-clause-takes
returns-in-Ok-clause-takes c = λ m rest is front.
    let given = c.in-Some.ensures.given m (written m) rest is (c.as_slice.ensures ∙ front) in
    record {
      long = ap Some given.1;
      taken = subst (λ e. IsTaken e (inner_of c.args.bus.now) (inner_of c.take.new.bus) c.args.conn c.args.sender c.args.trace.now.items c.take.new.trace.items) given.0 c.in-Ok.ensures.taken;
    }

pub returns-in-Err-clause-spent : goal.returns-in-Err-clause-spent
returns-in-Err-clause-spent c = λ is m rest message front.
    let given = c.in-Some.ensures.given m (written m) rest message (c.as_slice.ensures ∙ front) in
    let same : c.in-Err.fault ≡ Spent = cc in
    subst (λ e. IsSpentTaking e (inner_of c.args.bus.now) c.args.conn c.args.sender c.args.trace.now.items c.take.new.trace.items) given.0 (c.in-Err.ensures.spent (ap Err same))
