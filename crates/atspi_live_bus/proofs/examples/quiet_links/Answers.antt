use Rattle.atspi_live_bus.proofs.Refusing.{quiet}
use Rattle.atspi_live_bus.proofs.examples.quiet_links.Goals as goal

pub returns : goal.returns
returns c = quiet
