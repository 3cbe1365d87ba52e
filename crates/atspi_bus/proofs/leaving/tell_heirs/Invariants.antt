use Rattle.std.proofs.Common.{◌≡◌, ◌++◌, take, map}
use Rattle.atspi_message.specs.Envelope.{envelope_of}
use Rattle.atspi_names.specs.Owners.{after_gone}
use Rattle.atspi_bus_steps.specs.Farewell.{names_pass_on}
use Rattle.atspi_bus.proofs.leaving.tell_heirs.Given as goal

abbrev pub invariant-loop-name : goal.invariant-loop-name
invariant-loop-name l = map envelope_of l.told.items ≡ map envelope_of l.fn.told.items ++ names_pass_on (after_gone l.names l.conn) l.unique (take l.name-index l.owned)
