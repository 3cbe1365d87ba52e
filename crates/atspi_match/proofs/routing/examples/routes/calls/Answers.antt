use Rattle.std.proofs.Common.{refl}
use Rattle.atspi_match.proofs.OfRouting.Known.{known}
use Rattle.atspi_match.proofs.routing.examples.routes.calls.Goals as goal

pub returns-clause-owner : goal.returns-clause-owner
returns-clause-owner c = simp known refl

pub returns-clause-unexpecting : goal.returns-clause-unexpecting
returns-clause-unexpecting c = simp known refl

pub returns-clause-unknown : goal.returns-clause-unknown
returns-clause-unknown c = simp known refl

pub returns-clause-unknown_unexpecting : goal.returns-clause-unknown_unexpecting
returns-clause-unknown_unexpecting c = simp known refl
