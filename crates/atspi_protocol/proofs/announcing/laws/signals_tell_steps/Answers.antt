use Rattle.atspi_protocol.proofs.OfAnnouncing.Told.{signals_tell_steps}
use Rattle.atspi_protocol.proofs.announcing.laws.signals_tell_steps.Goals as goal

pub returns : goal.returns
returns c = signals_tell_steps
