use Rattle.atspi_trace_laws.proofs.OfAnswered.LawAnswered.{items_law}
use Rattle.atspi_trace_laws.proofs.answered.laws.items_are_told.Goals as goal

pub returns : goal.returns
returns c = items_law
