use Rattle.atspi_app_signals.proofs.Staying.{applied_can_be_told}
use Rattle.atspi_app_signals.proofs.laws.applied_can_be_told.Goals as goal

pub returns : goal.returns
returns c = applied_can_be_told
