use Rattle.atspi_live_bus.proofs.StepsClosing.{own, another, not_closed}
use Rattle.atspi_live_bus.proofs.examples.steps_that_close.Goals as goal

pub returns-clause-own : goal.returns-clause-own
returns-clause-own c = own

pub returns-clause-another : goal.returns-clause-another
returns-clause-another c = another

pub returns-clause-not_closed : goal.returns-clause-not_closed
returns-clause-not_closed c = not_closed
