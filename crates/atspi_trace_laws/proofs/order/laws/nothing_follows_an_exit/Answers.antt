use Rattle.atspi_trace_laws.proofs.OfOrder.Exits.{nothing_follows}
use Rattle.atspi_trace_laws.proofs.order.laws.nothing_follows_an_exit.Goals as goal

pub returns : goal.returns
returns c = nothing_follows
