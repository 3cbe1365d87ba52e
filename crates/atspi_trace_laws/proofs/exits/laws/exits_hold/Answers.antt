use Rattle.atspi_trace_laws.proofs.OfNames.LawEnds.{exits_law}
use Rattle.atspi_trace_laws.proofs.exits.laws.exits_hold.Goals as goal

pub returns : goal.returns
returns c = exits_law
