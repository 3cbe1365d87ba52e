use Rattle.std.proofs.Common.{refl}
use Rattle.atspi_base.specs.valid_names.Elements.{are_two_or_more, are_elements, parts_of}
use Rattle.atspi_base.specs.valid_names.Names.{is_bus_name}
use Rattle.atspi_trace_examples.proofs.missed.what_is_past.Goals as goal

pub returns-clause-over_ : goal.returns-clause-over_
returns-clause-over_ c = tt

pub returns-clause-embeds : goal.returns-clause-embeds
returns-clause-embeds c = tt

pub returns-clause-lists : goal.returns-clause-lists
returns-clause-lists c h = h

pub returns-clause-matches : goal.returns-clause-matches
returns-clause-matches c h = h

pub returns-clause-greets : goal.returns-clause-greets
returns-clause-greets c h = h

pub returns-clause-begins : goal.returns-clause-begins
returns-clause-begins c h = h

pub returns-clause-a_signal : goal.returns-clause-a_signal
unfolding is_bus_name are_two_or_more are_elements parts_of
returns-clause-a_signal c = refl

pub returns-clause-a_return : goal.returns-clause-a_return
returns-clause-a_return c = refl
