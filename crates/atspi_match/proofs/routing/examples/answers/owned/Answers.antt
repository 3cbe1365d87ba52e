use Rattle.std.proofs.Common.{refl}
use Rattle.atspi_match.proofs.OfRouting.Known.{known}
use Rattle.atspi_match.proofs.routing.examples.answers.owned.Goals as goal

pub returns-clause-has : goal.returns-clause-has
returns-clause-has c = simp known refl

pub returns-clause-has_not : goal.returns-clause-has_not
returns-clause-has_not c = simp known refl

pub returns-clause-owner : goal.returns-clause-owner
returns-clause-owner c = simp known refl

pub returns-clause-of_unique : goal.returns-clause-of_unique
returns-clause-of_unique c = simp known refl

pub returns-clause-nobody : goal.returns-clause-nobody
returns-clause-nobody c = simp known refl

pub returns-clause-names : goal.returns-clause-names
returns-clause-names c = simp known refl

pub returns-clause-queue : goal.returns-clause-queue
returns-clause-queue c = simp known refl

pub returns-clause-no_queue : goal.returns-clause-no_queue
returns-clause-no_queue c = simp known refl
