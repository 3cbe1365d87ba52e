use Rattle.atspi_trace_laws.proofs.OfLost.Lost.{nothing_behind}
use Rattle.atspi_trace_laws.proofs.lost.laws.nothing_behind_the_registry.Goals as goal

pub returns : goal.returns
returns c = nothing_behind
