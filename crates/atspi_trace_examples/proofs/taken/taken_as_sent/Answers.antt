use Rattle.std.proofs.Common.{refl}
use Rattle.atspi_trace_laws.proofs.OfOrder.Parties.{false_true}
use Rattle.atspi_trace_examples.proofs.taken.taken_as_sent.Goals as goal

pub returns-clause-was_sent : goal.returns-clause-was_sent
returns-clause-was_sent c = refl

pub returns-clause-unsent : goal.returns-clause-unsent
returns-clause-unsent c h = false_true h

pub returns-clause-another_serial : goal.returns-clause-another_serial
returns-clause-another_serial c h = false_true h

pub returns-clause-another_sender : goal.returns-clause-another_sender
returns-clause-another_sender c h = false_true h

pub returns-clause-of_the_bus : goal.returns-clause-of_the_bus
returns-clause-of_the_bus c = tt

pub returns-clause-other_entry : goal.returns-clause-other_entry
returns-clause-other_entry c = tt
