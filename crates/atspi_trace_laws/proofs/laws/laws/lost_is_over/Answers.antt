use Rattle.atspi_trace_laws.proofs.OfLaws.One.{lost_over}
use Rattle.atspi_trace_laws.proofs.laws.laws.lost_is_over.Goals as goal

pub returns : goal.returns
returns c = lost_over
