use Rattle.atspi_protocol.proofs.OfWhole.Followed.{shape_is_kept}
use Rattle.atspi_protocol.proofs.whole.laws.shape_is_kept.Goals as goal

pub returns : goal.returns
returns c = shape_is_kept
