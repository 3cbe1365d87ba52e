use Rattle.atspi_trace_played.proofs.LawFew.{turns_are_few}
use Rattle.atspi_trace_played.proofs.turns.laws.turns_are_few.Goals as goal

pub returns : goal.returns
returns c = turns_are_few
