use Rattle.atspi_trace.proofs.Following.{links_follow}
use Rattle.atspi_trace.proofs.laws.links_follow_queues.Goals as goal

pub returns : goal.returns
returns c = links_follow
