use Rattle.atspi_trace_played.proofs.AllPieces.{pieces}
use Rattle.atspi_trace_played.proofs.Playing.{is_lawful}
use Rattle.atspi_trace_played.proofs.laws.played_is_lawful.Goals as goal

pub returns : goal.returns
returns c = is_lawful pieces
