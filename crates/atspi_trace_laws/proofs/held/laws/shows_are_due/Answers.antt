use Rattle.atspi_trace_laws.proofs.OfHeld.LawHeld.{shows_are_due}
use Rattle.atspi_trace_laws.proofs.held.laws.shows_are_due.Goals as goal

pub returns : goal.returns
returns c = shows_are_due
