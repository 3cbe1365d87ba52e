use Rattle.atspi_headline_laws.proofs.Proving.{steps_do}
use Rattle.atspi_headline_laws.proofs.laws.steps_follow_edits_and_calls.Goals as goal

pub returns : goal.returns
returns c = steps_do
