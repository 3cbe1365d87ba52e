use Rattle.atspi_headline_laws.proofs.Proving.{drops_do}
use Rattle.atspi_headline_laws.proofs.laws.nothing_follows_a_drop.Goals as goal

pub returns : goal.returns
returns c = drops_do
