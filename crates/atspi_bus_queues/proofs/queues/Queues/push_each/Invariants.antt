use Rattle.atspi_bus_queues.proofs.Pushing.{HasGone}
use Rattle.atspi_bus_queues.proofs.queues.Queues.push_each.Given as goal

abbrev pub invariant-loop-i : goal.invariant-loop-i
invariant-loop-i l = HasGone l.fn.self.quota l.fn.self.waiting l.bytes l.conns l.self l.i
