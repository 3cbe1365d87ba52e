use Rattle.std.proofs.Common.{arith, length}
use Rattle.atspi_message_in_place.specs.View.{envelope_at}
use Rattle.atspi_match.specs.routing.Steps.{bus_takes}
use Rattle.atspi_match.specs.routing.Queues.{stepped}
use Rattle.atspi_bus_steps.specs.InnerBus.{inner_of}
use Rattle.atspi_bus_steps.proofs.Settling.{settled_rises}
use Rattle.atspi_bus_steps.proofs.inner.Inner.take.Goals as goal

pub returns-in-Err-clause-spent : goal.returns-in-Err-clause-spent
returns-in-Err-clause-spent c e =
    let h = c.in-Err.ensures.spent e in
    let b = inner_of c.args.self.now in
    let rise = settled_rises (length b.state.joined) (stepped b (bus_takes b.state c.args.conn (envelope_at c.args.m.now) h.0)) in
    let over = h.2 in
    (h.0, h.1, omega arith)
