use Rattle.atspi_trace_laws.proofs.OfEnds.LawEnds.{nothing_comes}
use Rattle.atspi_trace_laws.proofs.exits.laws.nothing_comes_behind_an_end.Goals as goal

pub returns : goal.returns
returns c = nothing_comes
