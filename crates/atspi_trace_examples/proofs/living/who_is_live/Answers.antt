use Rattle.std.proofs.Common.{refl}
use Rattle.atspi_trace_laws.proofs.OfOrder.Parties.{false_true}
use Rattle.atspi_trace_examples.proofs.living.who_is_live.Goals as goal

pub returns-clause-sends : goal.returns-clause-sends
returns-clause-sends c = refl

pub returns-clause-takes : goal.returns-clause-takes
returns-clause-takes c = refl

pub returns-clause-before : goal.returns-clause-before
returns-clause-before c h = false_true h

pub returns-clause-stopped : goal.returns-clause-stopped
returns-clause-stopped c h = false_true h

pub returns-clause-was_dropped : goal.returns-clause-was_dropped
returns-clause-was_dropped c h = false_true h

pub returns-clause-registry : goal.returns-clause-registry
returns-clause-registry c = refl

pub returns-clause-bus : goal.returns-clause-bus
returns-clause-bus c = tt
