use Rattle.atspi_trace_laws.proofs.OfSteps.LawSteps.{steps_apply}
use Rattle.atspi_trace_laws.proofs.steps.laws.steps_apply.Goals as goal

pub returns : goal.returns
returns c = steps_apply
