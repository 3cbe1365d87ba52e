use Rattle.atspi_trace_played.proofs.TurnsTaken.{turns_take}
use Rattle.atspi_trace_played.proofs.turns.laws.turns_take.Goals as goal

pub returns : goal.returns
returns c = turns_take
