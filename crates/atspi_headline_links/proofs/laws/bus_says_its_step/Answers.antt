use Rattle.atspi_headline_links.proofs.Proving.{bus_does_say}
use Rattle.atspi_headline_links.proofs.laws.bus_says_its_step.Goals as goal

pub returns : goal.returns
returns c = bus_does_say
