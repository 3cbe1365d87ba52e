use Rattle.std.proofs.Common.{◌-◌, length}
use Rattle.atspi_match.specs.routing.Queues.{Waiting}
use Rattle.atspi_bus_queues.specs.Each.{WentToEach}
use Rattle.atspi_bus_queues.proofs.Pushing.{HasGone}
use Rattle.atspi_bus_queues.proofs.queues.Queues.take_back_each.Given as goal

abbrev pub invariant-loop-i : goal.invariant-loop-i
invariant-loop-i l =
    (before : Waiting) → WentToEach l.fn.self.quota before l.fn.self.waiting l.bytes l.conns
    → HasGone l.fn.self.quota before l.bytes l.conns l.self (length l.conns - l.i)
