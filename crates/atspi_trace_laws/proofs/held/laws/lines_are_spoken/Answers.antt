use Rattle.atspi_trace_laws.proofs.OfHeld.LawHeld.{lines_are_spoken}
use Rattle.atspi_trace_laws.proofs.held.laws.lines_are_spoken.Goals as goal

pub returns : goal.returns
returns c = lines_are_spoken
