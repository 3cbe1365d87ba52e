use Rattle.std.proofs.Common.{refl}
use Rattle.atspi_base.specs.valid_names.Elements.{are_two_or_more, are_elements, parts_of}
use Rattle.atspi_base.specs.valid_names.Names.{is_bus_name}
use Rattle.atspi_trace_laws.proofs.OfOrder.Parties.{false_true}
use Rattle.atspi_trace_examples.proofs.missed.what_is_told.Goals as goal

pub returns-clause-more : goal.returns-clause-more
unfolding is_bus_name are_two_or_more are_elements parts_of
returns-clause-more c = refl

pub returns-clause-less : goal.returns-clause-less
unfolding is_bus_name are_two_or_more are_elements parts_of
returns-clause-less c = refl

pub returns-clause-other : goal.returns-clause-other
returns-clause-other c = refl

pub returns-clause-named : goal.returns-clause-named
unfolding is_bus_name are_two_or_more are_elements parts_of
returns-clause-named c = (refl, tt)

pub returns-clause-no_name : goal.returns-clause-no_name
unfolding is_bus_name
returns-clause-no_name c = λ h. false_true h.0

pub returns-clause-sent_by : goal.returns-clause-sent_by
unfolding is_bus_name are_two_or_more are_elements parts_of
returns-clause-sent_by c = refl

pub returns-clause-sent_by_no_name : goal.returns-clause-sent_by_no_name
unfolding is_bus_name
returns-clause-sent_by_no_name c = λ h. false_true h

pub returns-clause-sent_by_nobody : goal.returns-clause-sent_by_nobody
returns-clause-sent_by_nobody c = tt
