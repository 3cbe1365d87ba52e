use Rattle.atspi_headline_laws.proofs.Proving.{applications_do}
use Rattle.atspi_headline_laws.proofs.laws.applications_say_what_is_due.Goals as goal

pub returns : goal.returns
returns c = applications_do
