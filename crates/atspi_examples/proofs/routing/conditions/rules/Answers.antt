use Rattle.std.proofs.Common.{refl}
use Rattle.atspi_examples.proofs.OfRouting.Known.{known}
use Rattle.atspi_examples.proofs.routing.conditions.rules.Goals as goal

pub returns-clause-by_owner : goal.returns-clause-by_owner
returns-clause-by_owner c = simp known refl
