use Rattle.std.proofs.Common.{length, map}
use Rattle.atspi_message.specs.Envelope.{envelope_of}
use Rattle.atspi_bus_steps.specs.InnerBus.{inner_of}
use Rattle.atspi_bus_steps.proofs.Said.{IsSaying}
use Rattle.atspi_bus_steps.proofs.inner.Inner.say.Given as goal

abbrev pub invariant-loop-message : goal.invariant-loop-message
invariant-loop-message l = IsSaying (inner_of l.fn.self) (inner_of l.self) (map envelope_of l.initial.rest.items) (map envelope_of l.rest.items)

abbrev pub decreases-loop-message : goal.decreases-loop-message
decreases-loop-message l = length l.rest.items
