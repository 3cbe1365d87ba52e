use Rattle.std.proofs.Common.{◌≡◌, take}
use Rattle.std.specs.List.{filter}
use Rattle.atspi_bus_steps.specs.inner.Asking.{has_joined}
use Rattle.atspi_bus_steps.proofs.receiving.still_joined.Given as goal

abbrev pub invariant-loop-conn : goal.invariant-loop-conn
invariant-loop-conn l = l.conns.items ≡ filter (has_joined l.joined) (take l.conn-index l.found)
