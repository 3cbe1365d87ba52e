use Rattle.std.proofs.Common.{refl}
use Rattle.atspi_base.specs.valid_names.Names.{is_bus_name}
use Rattle.atspi_base.specs.valid_names.Elements.{are_two_or_more, are_elements, parts_of}
use Rattle.atspi_match.proofs.OfRouting.Known.{known}
use Rattle.atspi_match.proofs.routing.examples.answers.releases.Goals as goal

pub returns-clause-passed_on : goal.returns-clause-passed_on
unfolding is_bus_name are_two_or_more are_elements parts_of
returns-clause-passed_on c = simp known refl

pub returns-clause-to_nobody : goal.returns-clause-to_nobody
unfolding is_bus_name are_two_or_more are_elements parts_of
returns-clause-to_nobody c = simp known refl

pub returns-clause-answer : goal.returns-clause-answer
unfolding is_bus_name are_two_or_more are_elements parts_of
returns-clause-answer c = simp known refl

pub returns-clause-waiting : goal.returns-clause-waiting
unfolding is_bus_name are_two_or_more are_elements parts_of
returns-clause-waiting c = simp known refl

pub returns-clause-not_owner : goal.returns-clause-not_owner
unfolding is_bus_name are_two_or_more are_elements parts_of
returns-clause-not_owner c = simp known refl

pub returns-clause-unknown : goal.returns-clause-unknown
unfolding is_bus_name are_two_or_more are_elements parts_of
returns-clause-unknown c = simp known refl
