use Rattle.atspi_trace_laws.proofs.OfLinks.TakenInOrder.{bus_takes_in_order}
use Rattle.atspi_trace_laws.proofs.links.laws.bus_takes_in_order.Goals as goal

pub returns : goal.returns
returns c = bus_takes_in_order
