use Rattle.atspi_protocol.proofs.OfWhole.Followed.{steps_are_followed}
use Rattle.atspi_protocol.proofs.whole.laws.steps_are_followed.Goals as goal

pub returns : goal.returns
returns c = steps_are_followed
