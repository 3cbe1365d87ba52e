use Rattle.std.proofs.Common.{◌-◌, length}
use Rattle.atspi_match.specs.routing.Queues.{Waiting}
use Rattle.atspi_bus_queues.specs.Each.{WentToEach}
use Rattle.atspi_bus_queues.proofs.Pushing.{HasGone}
use Rattle.atspi_bus.proofs.in_place.take_back_each.Given as goal

abbrev pub invariant-loop-i : goal.invariant-loop-i
invariant-loop-i l =
    (before : Waiting) → WentToEach l.fn.queues.quota before l.fn.queues.waiting l.bytes l.conns
    → HasGone l.fn.queues.quota before l.bytes l.conns l.queues (length l.conns - l.i)
