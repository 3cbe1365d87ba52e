use Rattle.atspi_match.proofs.OfRouting.Within.{stay_within}
use Rattle.atspi_match.proofs.routing.laws.queues_stay_within.Goals as goal

pub returns : goal.returns
returns c = stay_within
