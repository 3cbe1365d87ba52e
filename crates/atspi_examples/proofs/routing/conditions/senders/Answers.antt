use Rattle.std.proofs.Common.{refl}
use Rattle.atspi_examples.proofs.OfRouting.Known.{known}
use Rattle.atspi_examples.proofs.routing.conditions.senders.Goals as goal

pub returns-clause-owner : goal.returns-clause-owner
returns-clause-owner c = simp known refl

pub returns-clause-waiting : goal.returns-clause-waiting
returns-clause-waiting c = simp known refl

pub returns-clause-nobody : goal.returns-clause-nobody
returns-clause-nobody c = simp known refl
