use Rattle.atspi_trace_laws.proofs.OfAnswered.LawAnswered.{parts_law}
use Rattle.atspi_trace_laws.proofs.answered.laws.parts_are_told.Goals as goal

pub returns : goal.returns
returns c = parts_law
