-- How contracts see a bus.
use Rattle.std.specs.Prelude.{ℕ}
use Rattle.atspi_match.specs.routing.Queues as queues
use Rattle.atspi_bus_steps.specs.InnerBus.{inner_of}
use Rattle.atspi_bus.specs.declared.bus.Bus.{Bus}

abbrev pub bus_of : Bus → queues.Bus
bus_of b = inner_of b.inner

-- how many connections have ever joined
abbrev pub given_of : Bus → ℕ
given_of b = b.given
