use Rattle.std.proofs.Common.{◌≡◌, take, map}
use Rattle.atspi_message.specs.Envelope.{envelope_of}
use Rattle.atspi_bus_steps.proofs.keeping.copy_own.Given as goal

abbrev pub invariant-loop-i : goal.invariant-loop-i
invariant-loop-i l = map envelope_of l.copy.items ≡ map envelope_of (take l.i l.own.items)
