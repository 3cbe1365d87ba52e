use Rattle.atspi_trace_laws.proofs.OfHeard.LawHeard.{steps_told}
use Rattle.atspi_trace_laws.proofs.heard.laws.steps_are_told.Goals as goal

pub returns : goal.returns
returns c = steps_told
