use Rattle.atspi_trace_laws.proofs.OfOrder.Exits.{nobody_returns}
use Rattle.atspi_trace_laws.proofs.order.laws.nobody_returns.Goals as goal

pub returns : goal.returns
returns c = nobody_returns
