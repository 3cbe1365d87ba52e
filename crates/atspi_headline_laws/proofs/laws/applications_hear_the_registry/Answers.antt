use Rattle.atspi_headline_laws.proofs.Proving.{hearing_does}
use Rattle.atspi_headline_laws.proofs.laws.applications_hear_the_registry.Goals as goal

pub returns : goal.returns
returns c = hearing_does
