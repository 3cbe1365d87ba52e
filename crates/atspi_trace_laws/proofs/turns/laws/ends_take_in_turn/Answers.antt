use Rattle.atspi_trace_laws.proofs.OfTurns.LawTurns.{ends_take_in_turn}
use Rattle.atspi_trace_laws.proofs.turns.laws.ends_take_in_turn.Goals as goal

pub returns : goal.returns
returns c = ends_take_in_turn
