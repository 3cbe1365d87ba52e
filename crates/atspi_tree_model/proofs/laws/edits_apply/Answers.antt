use Rattle.atspi_tree_model.proofs.EditsApply.{steps_apply}
use Rattle.atspi_tree_model.proofs.laws.edits_apply.Goals as goal

pub returns : goal.returns
returns c = steps_apply
