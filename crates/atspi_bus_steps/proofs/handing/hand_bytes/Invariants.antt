use Rattle.std.proofs.Common.{◌≡◌, take}
use Rattle.atspi_bus_steps.specs.inner.Handing.{queued_each}
use Rattle.atspi_bus_steps.proofs.handing.hand_bytes.Given as goal

abbrev pub invariant-loop-conn : goal.invariant-loop-conn
invariant-loop-conn l = l.queues ≡ record l.fn.queues { waiting = queued_each l.fn.queues.quota l.fn.queues.waiting l.bytes (take l.conn-index l.receivers) }
