use Rattle.atspi_trace_played.proofs.WithoutEnd.{no_turns_without_end}
use Rattle.atspi_trace_played.proofs.turns.laws.no_turns_without_end.Goals as goal

pub returns : goal.returns
returns c = no_turns_without_end
