use Rattle.atspi_trace_played.proofs.PlayedTurns.{drains_end}
use Rattle.atspi_trace_played.proofs.turns.laws.drains_end.Goals as goal

pub returns : goal.returns
returns c = drains_end
