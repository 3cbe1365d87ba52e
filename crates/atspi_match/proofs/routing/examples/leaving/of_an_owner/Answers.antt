use Rattle.std.proofs.Common.{refl}
use Rattle.atspi_match.proofs.OfRouting.Known.{known}
use Rattle.atspi_match.proofs.routing.examples.leaving.of_an_owner.Goals as goal

pub returns-clause-told : goal.returns-clause-told
returns-clause-told c = simp known refl

pub returns-clause-next : goal.returns-clause-next
returns-clause-next c = simp known refl

pub returns-clause-owner : goal.returns-clause-owner
returns-clause-owner c = simp known refl

pub returns-clause-unique : goal.returns-clause-unique
returns-clause-unique c = simp known refl
