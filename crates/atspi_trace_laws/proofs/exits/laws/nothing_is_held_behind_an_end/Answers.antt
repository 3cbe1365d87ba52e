use Rattle.atspi_trace_laws.proofs.OfEnds.LawEnds.{nothing_held}
use Rattle.atspi_trace_laws.proofs.exits.laws.nothing_is_held_behind_an_end.Goals as goal

pub returns : goal.returns
returns c = nothing_held
