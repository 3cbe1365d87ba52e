use Rattle.std.proofs.Common.{◌≡◌, ◌++◌, take, map}
use Rattle.atspi_message.specs.Envelope.{envelope_of}
use Rattle.atspi_bus_steps.specs.Farewell.{names_pass_on}
use Rattle.atspi_bus_steps.proofs.leaving.tell_names.Given as goal

abbrev pub invariant-loop-name : goal.invariant-loop-name
invariant-loop-name l = map envelope_of l.told.items ≡ map envelope_of l.fn.told.items ++ names_pass_on l.after l.unique (take l.name-index l.owned)
