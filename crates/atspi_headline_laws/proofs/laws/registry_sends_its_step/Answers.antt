use Rattle.atspi_headline_laws.proofs.Proving.{registry_does}
use Rattle.atspi_headline_laws.proofs.laws.registry_sends_its_step.Goals as goal

pub returns : goal.returns
returns c = registry_does
