use Rattle.atspi_trace_played.proofs.AllPieces.{pieces}
use Rattle.atspi_trace_played.proofs.Playing.{refusals}
use Rattle.atspi_trace_played.proofs.laws.refusals_agree.Goals as goal

pub returns : goal.returns
returns c = refusals pieces
