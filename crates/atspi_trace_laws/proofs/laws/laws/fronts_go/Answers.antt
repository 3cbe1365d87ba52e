use Rattle.atspi_trace_laws.proofs.OfLaws.One.{fronts}
use Rattle.atspi_trace_laws.proofs.laws.laws.fronts_go.Goals as goal

pub returns : goal.returns
returns c = fronts
