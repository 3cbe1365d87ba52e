use Rattle.atspi_trace_laws.proofs.OfMissed.LawMissed.{no_signal_missed}
use Rattle.atspi_trace_laws.proofs.missed.laws.no_signal_is_missed.Goals as goal

pub returns : goal.returns
returns c = no_signal_missed
