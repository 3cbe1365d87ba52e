use Rattle.atspi_trace_laws.proofs.OfLaws.One.{quiet_settled}
use Rattle.atspi_trace_laws.proofs.laws.laws.quiet_is_settled.Goals as goal

pub returns : goal.returns
returns c = quiet_settled
