use Rattle.atspi_trace_played.proofs.AllPieces.{pieces}
use Rattle.atspi_trace_played.proofs.PlayingDropped.{lost_drops}
use Rattle.atspi_trace_played.proofs.laws.lost_is_dropped.Goals as goal

pub returns : goal.returns
returns c = lost_drops pieces
