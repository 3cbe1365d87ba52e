use Rattle.atspi_headline_laws.proofs.Proving.{calls_do}
use Rattle.atspi_headline_laws.proofs.laws.readers_call_in_turn.Goals as goal

pub returns : goal.returns
returns c = calls_do
