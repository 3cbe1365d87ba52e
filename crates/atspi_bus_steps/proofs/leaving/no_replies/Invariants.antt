use Rattle.std.proofs.Common.{◌≡◌, take, map}
use Rattle.atspi_message.specs.Envelope.{envelope_of}
use Rattle.atspi_bus_steps.specs.InnerBus.{call_of}
use Rattle.atspi_bus_steps.specs.Farewell.{no_replies}
use Rattle.atspi_bus_steps.proofs.leaving.no_replies.Given as goal

abbrev pub invariant-loop-call : goal.invariant-loop-call
invariant-loop-call l = map envelope_of l.replies.items ≡ no_replies l.names (map call_of (take l.call-index l.calls)) l.conn
