use Rattle.std.proofs.Common.{arith, length}
use Rattle.atspi_match.specs.routing.Queues.{left}
use Rattle.atspi_bus_steps.specs.InnerBus.{inner_of}
use Rattle.atspi_bus_steps.proofs.Settling.{settled_rises}
use Rattle.atspi_bus_steps.proofs.inner.Inner.part_with.Goals as goal

pub returns-in-Err-clause-spent : goal.returns-in-Err-clause-spent
returns-in-Err-clause-spent c e =
    let over = c.in-Err.ensures.spent e in
    let b = inner_of c.args.self.now in
    let rise = settled_rises (length b.state.joined) (left b c.args.conn) in
    omega arith
