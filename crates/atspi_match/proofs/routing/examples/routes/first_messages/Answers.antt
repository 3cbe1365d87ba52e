use Rattle.std.proofs.Common.{refl}
use Rattle.atspi_match.proofs.OfRouting.Known.{known}
use Rattle.atspi_match.proofs.routing.examples.routes.first_messages.Goals as goal

pub returns-clause-no_hello : goal.returns-clause-no_hello
returns-clause-no_hello c = simp known refl

pub returns-clause-other_call : goal.returns-clause-other_call
returns-clause-other_call c = simp known refl

pub returns-clause-other_interface : goal.returns-clause-other_interface
returns-clause-other_interface c = simp known refl

pub returns-clause-no_destination : goal.returns-clause-no_destination
returns-clause-no_destination c = simp known refl

pub returns-clause-with_a_body : goal.returns-clause-with_a_body
returns-clause-with_a_body c = simp known refl

pub returns-clause-no_call : goal.returns-clause-no_call
returns-clause-no_call c = simp known refl
