use Rattle.std.proofs.Common.{refl}
use Rattle.atspi_trace_laws.proofs.OfOrder.Parties.{false_true}
use Rattle.atspi_trace_examples.proofs.delivered.of_the_bus.Goals as goal

pub returns-clause-was_sent : goal.returns-clause-was_sent
returns-clause-was_sent c live = refl

pub returns-clause-unsent : goal.returns-clause-unsent
returns-clause-unsent c h = false_true (h refl)

pub returns-clause-another_serial : goal.returns-clause-another_serial
returns-clause-another_serial c h = false_true (h refl)

pub returns-clause-lost : goal.returns-clause-lost
returns-clause-lost c live = absurd (false_true live)

pub returns-clause-of_an_end : goal.returns-clause-of_an_end
returns-clause-of_an_end c = tt

pub returns-clause-other_entry : goal.returns-clause-other_entry
returns-clause-other_entry c = tt
