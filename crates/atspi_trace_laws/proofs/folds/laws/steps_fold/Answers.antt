use Rattle.atspi_trace_laws.proofs.OfFolds.LawFolds.{steps_fold}
use Rattle.atspi_trace_laws.proofs.folds.laws.steps_fold.Goals as goal

pub returns : goal.returns
returns c = steps_fold
