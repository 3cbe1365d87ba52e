use Rattle.atspi_trace_laws.proofs.OfMissed.Coming.{come_and_go}
use Rattle.atspi_trace_laws.proofs.missed.laws.pairs_come_and_go.Goals as goal

pub returns : goal.returns
returns c = come_and_go
