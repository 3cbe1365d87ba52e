use Rattle.atspi_trace_laws.proofs.OfMissed.Telling.{pairs_told}
use Rattle.atspi_trace_laws.proofs.missed.laws.pairs_are_told.Goals as goal

pub returns : goal.returns
returns c = pairs_told
