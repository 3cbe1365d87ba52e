use Rattle.atspi_run_check.proofs.EndLemmas.{one_end}
use Rattle.atspi_run_check.proofs.laws.inputs_have_one_end.Goals as goal

pub returns : goal.returns
returns c limit input h = one_end limit input h
