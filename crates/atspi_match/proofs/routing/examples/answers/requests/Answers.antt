use Rattle.std.proofs.Common.{refl}
use Rattle.atspi_base.specs.valid_names.Names.{is_bus_name}
use Rattle.atspi_base.specs.valid_names.Elements.{are_two_or_more, are_elements, parts_of}
use Rattle.atspi_match.proofs.OfRouting.Known.{known}
use Rattle.atspi_match.proofs.routing.examples.answers.requests.Goals as goal

pub returns-clause-taken_over : goal.returns-clause-taken_over
unfolding is_bus_name are_two_or_more are_elements parts_of
returns-clause-taken_over c = simp known refl

pub returns-clause-answer : goal.returns-clause-answer
unfolding is_bus_name are_two_or_more are_elements parts_of
returns-clause-answer c = simp known refl

pub returns-clause-new : goal.returns-clause-new
unfolding is_bus_name are_two_or_more are_elements parts_of
returns-clause-new c = simp known refl

pub returns-clause-waits : goal.returns-clause-waits
unfolding is_bus_name are_two_or_more are_elements parts_of
returns-clause-waits c = simp known refl

pub returns-clause-waits_answer : goal.returns-clause-waits_answer
unfolding is_bus_name are_two_or_more are_elements parts_of
returns-clause-waits_answer c = simp known refl

pub returns-clause-list : goal.returns-clause-list
unfolding is_bus_name are_two_or_more are_elements parts_of
returns-clause-list c = simp known refl

pub returns-clause-no_name : goal.returns-clause-no_name
unfolding is_bus_name are_two_or_more are_elements parts_of
returns-clause-no_name c = refl
