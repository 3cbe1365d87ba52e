use Rattle.atspi_protocol.proofs.OfExporting.Signed.{signatures_are_kept}
use Rattle.atspi_protocol.proofs.exporting.laws.signatures_are_kept.Goals as goal

pub returns : goal.returns
returns c = signatures_are_kept
