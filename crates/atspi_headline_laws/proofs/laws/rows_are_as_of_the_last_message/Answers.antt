use Rattle.atspi_headline_laws.proofs.Proving.{rows_do}
use Rattle.atspi_headline_laws.proofs.laws.rows_are_as_of_the_last_message.Goals as goal

pub returns : goal.returns
returns c = rows_do
