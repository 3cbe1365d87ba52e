use Rattle.atspi_headline_laws.proofs.Proving.{exits_do}
use Rattle.atspi_headline_laws.proofs.laws.exits_are_told.Goals as goal

pub returns : goal.returns
returns c = exits_do
