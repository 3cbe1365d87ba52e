use Rattle.atspi_trace_laws.proofs.OfLaws.One.{one}
use Rattle.atspi_trace_laws.proofs.laws.laws.traces_are_one.Goals as goal

pub returns : goal.returns
returns c = one
