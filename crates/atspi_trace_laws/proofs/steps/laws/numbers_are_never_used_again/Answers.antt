use Rattle.atspi_trace_laws.proofs.OfSteps.LawNodes.{numbers_are_new}
use Rattle.atspi_trace_laws.proofs.steps.laws.numbers_are_never_used_again.Goals as goal

pub returns : goal.returns
returns c = numbers_are_new
