use Rattle.atspi_trace_laws.proofs.OfMissed.Registering.{lists_as_told}
use Rattle.atspi_trace_laws.proofs.missed.laws.lists_are_as_told.Goals as goal

pub returns : goal.returns
returns c = lists_as_told
