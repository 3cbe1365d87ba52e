use Rattle.std.proofs.Common.{refl}
use Rattle.atspi_match.specs.routing.Queues.{joins, leaves}
use Rattle.atspi_live_bus_examples.proofs.asking.calls_in_order.Goals as goal

pub returns-clause-none : goal.returns-clause-none
returns-clause-none c b runs = runs

pub returns-clause-two : goal.returns-clause-two
returns-clause-two c b = (joins b 0, refl, (leaves (joins b 0) 0, refl, refl))
