use Rattle.atspi_protocol.proofs.OfExporting.Typed.{words_are_typed}
use Rattle.atspi_protocol.proofs.exporting.laws.words_are_typed.Goals as goal

pub returns : goal.returns
returns c = words_are_typed
