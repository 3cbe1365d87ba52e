use Rattle.std.proofs.Common.{refl}
use Rattle.atspi_trace_examples.proofs.traces.routing.the_registry_begins.Goals as goal

pub returns : goal.returns
returns c = refl
