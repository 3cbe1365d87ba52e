use Rattle.std.proofs.Common.{◌≡◌, ℕ, List, take}
use Rattle.atspi_bus_steps.specs.Spelled.{IsLong}
use Rattle.atspi_bus_steps.specs.inner.Handing.{queued_each}
use Rattle.atspi_bus_steps.proofs.handing.refuse_each.Given as goal

abbrev pub invariant-loop-conn : goal.invariant-loop-conn
invariant-loop-conn l =
    (bytes : List ℕ) → IsLong bytes l.len → l.queues ≡ record l.fn.queues { waiting = queued_each l.fn.queues.quota l.fn.queues.waiting bytes (take l.conn-index l.receivers) }
