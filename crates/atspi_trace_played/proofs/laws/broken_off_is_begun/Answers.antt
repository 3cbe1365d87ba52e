use Rattle.atspi_trace_played.proofs.AllPieces.{pieces}
use Rattle.atspi_trace_played.proofs.PlayingBroken.{broken_begun}
use Rattle.atspi_trace_played.proofs.laws.broken_off_is_begun.Goals as goal

pub returns : goal.returns
returns c = broken_begun pieces
