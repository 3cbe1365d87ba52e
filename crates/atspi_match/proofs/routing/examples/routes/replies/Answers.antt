use Rattle.std.proofs.Common.{refl}
use Rattle.atspi_match.proofs.OfRouting.Known.{known}
use Rattle.atspi_match.proofs.routing.examples.routes.replies.Goals as goal

pub returns-clause-return_ : goal.returns-clause-return_
returns-clause-return_ c = simp known refl

pub returns-clause-error : goal.returns-clause-error
returns-clause-error c = simp known refl

pub returns-clause-stranger : goal.returns-clause-stranger
returns-clause-stranger c = simp known refl

pub returns-clause-unasked : goal.returns-clause-unasked
returns-clause-unasked c = simp known refl

pub returns-clause-without_destination : goal.returns-clause-without_destination
returns-clause-without_destination c = simp known refl
