use Rattle.atspi_trace_laws.proofs.OfMissed.TakenBack.{taken_back}
use Rattle.atspi_trace_laws.proofs.missed.laws.nothing_is_taken_back.Goals as goal

pub returns : goal.returns
returns c = taken_back
