use Rattle.atspi_trace_laws.proofs.OfLost.Alive.{registry_lives}
use Rattle.atspi_trace_laws.proofs.lost.laws.the_registry_lives.Goals as goal

pub returns : goal.returns
returns c = registry_lives
