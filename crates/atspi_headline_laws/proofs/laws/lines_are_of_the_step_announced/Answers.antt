use Rattle.atspi_headline_laws.proofs.Proving.{lines_do}
use Rattle.atspi_headline_laws.proofs.laws.lines_are_of_the_step_announced.Goals as goal

pub returns : goal.returns
returns c = lines_do
