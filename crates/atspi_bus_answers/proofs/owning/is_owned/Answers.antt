use Rattle.std.proofs.Common.{◌∙◌}
use Rattle.atspi_bus_answers.proofs.OwnerNames.{has-owner}
use Rattle.atspi_bus_answers.proofs.owning.is_owned.Goals as goal

pub returns : goal.returns
returns c = c.is_some.ensures ∙ has-owner c.in_ok-owner.owner _ c.in_ok-owner.ensures
