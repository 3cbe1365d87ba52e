use Rattle.atspi_match.proofs.OfRouting.Deciding.{matching}
use Rattle.atspi_match.proofs.routing.laws.tests_decide.Goals as goal

pub returns : goal.returns
returns c = matching
