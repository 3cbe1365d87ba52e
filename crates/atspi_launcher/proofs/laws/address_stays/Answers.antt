use Rattle.atspi_launcher.proofs.Sending.{stays}
use Rattle.atspi_launcher.proofs.laws.address_stays.Goals as goal

pub returns : goal.returns
returns c = stays
