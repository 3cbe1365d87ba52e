use Rattle.std.proofs.Common.{refl}
use Rattle.atspi_base.specs.valid_names.Names.{is_bus_name}
use Rattle.atspi_base.specs.valid_names.Elements.{are_two_or_more, are_elements, parts_of}
use Rattle.atspi_examples.proofs.OfRouting.Known.{known}
use Rattle.atspi_examples.proofs.routing.answers.changed.Goals as goal

pub returns-clause-released : goal.returns-clause-released
unfolding is_bus_name are_two_or_more are_elements parts_of
returns-clause-released c = simp known refl

pub returns-clause-kept : goal.returns-clause-kept
unfolding is_bus_name are_two_or_more are_elements parts_of
returns-clause-kept c = simp known refl

pub returns-clause-unknown : goal.returns-clause-unknown
unfolding is_bus_name are_two_or_more are_elements parts_of
returns-clause-unknown c = simp known refl

pub returns-clause-waits : goal.returns-clause-waits
unfolding is_bus_name are_two_or_more are_elements parts_of
returns-clause-waits c = simp known refl
