use Rattle.std.proofs.Common.{refl}
use Rattle.atspi_base.specs.valid_names.Names.{is_bus_name}
use Rattle.atspi_base.specs.valid_names.Elements.{are_two_or_more, are_elements, parts_of}
use lib.Utf8.{encode}
use Rattle.atspi_trace_examples.proofs.caches.what_may_be_asked.Goals as goal

pub returns-clause-allowed : goal.returns-clause-allowed
unfolding encode is_bus_name are_two_or_more are_elements parts_of
returns-clause-allowed c = refl

pub returns-clause-no_rules : goal.returns-clause-no_rules
unfolding encode is_bus_name are_two_or_more are_elements parts_of
returns-clause-no_rules c = refl

pub returns-clause-one_rule_lacks : goal.returns-clause-one_rule_lacks
unfolding encode is_bus_name are_two_or_more are_elements parts_of
returns-clause-one_rule_lacks c = refl

pub returns-clause-no_patterns : goal.returns-clause-no_patterns
unfolding encode is_bus_name are_two_or_more are_elements parts_of
returns-clause-no_patterns c = refl

pub returns-clause-one_pattern_lacks : goal.returns-clause-one_pattern_lacks
unfolding encode is_bus_name are_two_or_more are_elements parts_of
returns-clause-one_pattern_lacks c = refl

pub returns-clause-any_name : goal.returns-clause-any_name
unfolding encode is_bus_name are_two_or_more are_elements parts_of
returns-clause-any_name c = refl
