use Rattle.std.proofs.Common.{refl}
use Rattle.atspi_examples.proofs.OfRouting.Known.{known}
use Rattle.atspi_examples.proofs.routing.conditions.owned_names.Goals as goal

pub returns-clause-nameless : goal.returns-clause-nameless
returns-clause-nameless c = simp known refl

pub returns-clause-to_owner : goal.returns-clause-to_owner
returns-clause-to_owner c = simp known refl

pub returns-clause-to_waiting : goal.returns-clause-to_waiting
returns-clause-to_waiting c = simp known refl
