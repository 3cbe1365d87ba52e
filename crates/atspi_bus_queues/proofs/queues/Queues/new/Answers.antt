use Rattle.std.proofs.Common.{arith}
use Rattle.atspi_bus_queues.proofs.Within.{within-new}
use Rattle.atspi_bus_queues.proofs.queues.Queues.new.Goals as goal

pub invariant_of-result : goal.invariant_of-result
invariant_of-result c = record { few = omega (arith, c.min.ensures); within = within-new c.min.result c.new.result c.new.ensures }
